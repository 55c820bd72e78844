use Rattle.crn_linear.proofs.Wides.{wide_num}
use Rattle.crn_linear.proofs.Wide.num.Goals as goal

pub returns-clause-value : goal.returns-clause-value
returns-clause-value c = wide_num _ _ _ c.self.view_is c.self.invariant
