use Rattle.crn_linear.proofs.Wides.{wide_den}
use Rattle.crn_linear.proofs.Wide.den.Goals as goal

pub returns-clause-value : goal.returns-clause-value
returns-clause-value c = wide_den _ _ _ c.self.view_is c.self.invariant
