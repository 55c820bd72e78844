use Rattle.crn_net.proofs.Exhausted.{leads_nowhere, is_settled}
use Rattle.crn_net.proofs.laws.exhausted_states.Goals as goal

pub returns-clause-same : goal.returns-clause-same
returns-clause-same c = leads_nowhere

pub returns-clause-settled : goal.returns-clause-settled
returns-clause-settled c = is_settled
