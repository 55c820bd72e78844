use Rattle.std.proofs.Common.{◌≡◌, ◌∙◌, arith}
use Rattle.std.proofs.lemmas.Grind.{common_steps}
use Rattle.crn_normal.proofs.Loops.{each_few, each_step}
use Rattle.crn_normal.proofs.steps.take_each.Goals as goal

pub loop-set-preserved : goal.loop-set-preserved
loop-set-preserved c =
    let same : c.in_ok-copy.copy.items ≡ c.numbers.result.now = grind (arith, common_steps) in
    record {
      few = each_few c.args.sets.now c.loop-set.set-index c.set-item.result c.in_ok-copy.copy.items c.loop-set-test.true c.set-item.is (same ∙ c.numbers.ensures) c.in_ok-take.ensures.0 c.loop-set.invariant.few;
      kept = each_step c.args.sets.now c.loop-set.set-index c.set-item.result c.in_ok-copy.copy.items _ _ _ c.loop-set-test.true c.set-item.is (same ∙ c.numbers.ensures) c.in_ok-take.ensures.1 c.loop-set.invariant.kept;
    }
