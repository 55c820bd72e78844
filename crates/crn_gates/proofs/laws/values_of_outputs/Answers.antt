use Rattle.crn_gates.proofs.Settled.{computes_made_value}
use Rattle.crn_gates.proofs.laws.values_of_outputs.Goals as goal

pub returns : goal.returns
returns c = computes_made_value
