use Rattle.crn_gates.proofs.Factors.{times_factor}
use Rattle.crn_gates.proofs.laws.factors_multiply.Goals as goal

pub returns : goal.returns
returns c = times_factor
