use Rattle.crn_net.proofs.Start.{start_is_state, context_amount}
use Rattle.crn_net.proofs.laws.starts.Goals as goal

pub returns-clause-state : goal.returns-clause-state
returns-clause-state c = start_is_state

pub returns-clause-context : goal.returns-clause-context
returns-clause-context c = context_amount
