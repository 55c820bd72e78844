use Rattle.std.proofs.Common.{rules, SFits, get_or}
use Rattle.std.specs.Prelude.{pos}
use Rattle.std.specs.Int.{w64}
use Rattle.std.proofs.lemmas.Int.{to_z-of_z}
use Rattle.crn_linear.proofs.Padding.{padding_step}
use Rattle.crn_linear.proofs.nine.Goals as goal

pub loop-i-preserved : goal.loop-i-preserved
loop-i-preserved c =
    let fits : SFits w64 (get_or c.args.entries.now c.loop-i.i (pos 0)) = search rules in
    padding_step (pos 0) _ _ _ _ c.loop-i-test.true c.requires (to_z-of_z w64 _ fits) c.loop-i.invariant
