use Rattle.std.proofs.Common.{refl, subst, arith}
use Rattle.std.specs.Prelude.{pos}
use Rattle.std.specs.List.{All}
use Rattle.std.proofs.lemmas.Int.{ints}
use Rattle.std.proofs.lemmas.List.{take_all}
use Rattle.std.proofs.lemmas.List.Elements.{All-more}
use Rattle.crn_linear.specs.Rows.{IsSmall, AreSmall}
use Rattle.crn_farkas.proofs.Motzkin.{IsNonnegative}
use Rattle.crn_farkas.proofs.are_in_range.Goals as goal

pub loop-multiplier-preserved : goal.loop-multiplier-preserved
loop-multiplier-preserved c =
    let m = c.loop-multiplier.multiplier-index in
    record {
      nonnegative = All-more IsNonnegative c.args.multipliers.now m (pos 0) c.loop-multiplier-test.true c.loop-multiplier.invariant.nonnegative (omega (arith, ints));
      small = All-more IsSmall c.args.multipliers.now m (pos 0) c.loop-multiplier-test.true c.loop-multiplier.invariant.small (record { size = omega (arith, ints) });
    }

pub returns : goal.returns
returns c =
    let whole = take_all c.loop-multiplier.multiplier-index c.args.multipliers.now c.loop-multiplier-test.false in
    (λ t. (subst (All IsNonnegative) whole c.loop-multiplier.invariant.nonnegative, subst AreSmall whole c.loop-multiplier.invariant.small), λ h. refl)
