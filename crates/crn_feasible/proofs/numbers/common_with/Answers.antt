use Rattle.crn_feasible.proofs.Commons.{one_stays}
use Rattle.crn_feasible.proofs.numbers.common_with.Goals as goal

pub returns-then-common-eq1-clause-value : goal.returns-then-common-eq1-clause-value
returns-then-common-eq1-clause-value c = one_stays c.loop-multiplier.multiplier-index c.args.start c.loop-multiplier.common c.args.multipliers.now c.loop-multiplier.invariant.value c.if-common-eq1.true
