use Rattle.std.proofs.Common.{arith, rules, sym, ap₂, ◌∙◌, ◌≡◌, ◌≤◌, ◌^◌, ◌+◌, ◌*◌, subst, to_z, SFits, get_or}
use Rattle.std.specs.Prelude.{ℤ, pos, ◌*ℤ◌, unsigned_abs}
use Rattle.std.specs.Int.{w64, w128}
use Rattle.std.proofs.lemmas.Int.{to_z-of_z}
use Rattle.crn_linear.proofs.Sums.{dot_more, sum_fits, sum_small}
use Rattle.crn_feasible.proofs.numbers.dot.Goals as goal

pub loop-i-preserved : goal.loop-i-preserved
loop-i-preserved c =
    let i = c.loop-i.i in
    let s : ℤ = to_z w128 c.loop-i.sum-bits in
    let fx : SFits w64 (get_or c.args.xs.now i (pos 0)) = search rules in
    let fy : SFits w64 (get_or c.args.ys.now i (pos 0)) = search rules in
    let p : c.product-sum.result ≡ get_or c.args.xs.now i (pos 0) *ℤ get_or c.args.ys.now i (pos 0) =
    c.product-sum.ensures.value ∙ ap₂ (λ a b. a *ℤ b) (to_z-of_z w64 _ fx) (to_z-of_z w64 _ fy) in
    let sum = sum_fits s c.product-sum.result i _ c.loop-i.invariant.small c.product-sum.ensures.small c.loop-i-test.true (omega (arith, c.requires.short)) in
    record {
      value = dot_more i c.args.xs.now c.args.ys.now s c.product-sum.result _ c.requires.same c.loop-i-test.true c.loop-i.invariant.value p sum;
      small = subst (λ (t : ℤ). unsigned_abs t ≤ (i + 1) * 2 ^ 118) (sym sum) (sum_small s c.product-sum.result i c.loop-i.invariant.small c.product-sum.ensures.small);
    }
