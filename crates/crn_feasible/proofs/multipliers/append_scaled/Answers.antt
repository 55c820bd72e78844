use Rattle.std.proofs.Common.{◌++◌, ◌∙◌, ap₂, map, to_z, of_z, ◌≤◌, ◌^◌, List, ℕ, sym, subst}
use Rattle.std.specs.Prelude.{ℤ, pos, unsigned_abs}
use Rattle.std.specs.Int.{w64}
use Rattle.std.specs.List.{All}
use Rattle.std.proofs.lemmas.Int.{to_z-of_z}
use Rattle.std.proofs.lemmas.List.{take_all}
use Rattle.std.proofs.lemmas.List.Elements.{All-push}
use Rattle.crn_feasible.specs.Sparse.{scaled}
use Rattle.crn_feasible.proofs.Sparse.{map_more}
use Rattle.crn_feasible.proofs.multipliers.append_scaled.Goals as goal

pub loop-multiplier-preserved : goal.loop-multiplier-preserved
loop-multiplier-preserved c =
    let a : ℤ = to_z w64 (of_z w64 c.args.a) in
    record {
      items = map_more (scaled a) c.args.multipliers.now c.loop-multiplier.multiplier-index (0, pos 0) c.args.out.now.items c.loop-multiplier.out.items _ c.scaled.result
          c.loop-multiplier-test.true c.loop-multiplier.invariant.items c.in_ok-push.ensures.items c.scaled.ensures.value;
      wide = subst (λ (ms : List (ℕ × ℤ)). All (λ m. unsigned_abs m.1 ≤ 2 ^ 119) ms) (sym c.in_ok-push.ensures.items)
          (All-push (λ m. unsigned_abs m.1 ≤ 2 ^ 119) c.loop-multiplier.out.items c.scaled.result c.loop-multiplier.invariant.wide c.scaled.ensures.wide);
    }

pub returns-clause-items : goal.returns-clause-items
returns-clause-items c =
    c.loop-multiplier.invariant.items
    ∙ ap₂ (λ a ms. c.args.out.now.items ++ map (scaled a) ms) (to_z-of_z w64 c.args.a c.ranges.a)
    (take_all c.loop-multiplier.multiplier-index c.args.multipliers.now c.loop-multiplier-test.false)
