use Rattle.crn_net.proofs.Flows.{amount-added}
use Rattle.crn_net.proofs.laws.flows_in_turn.Goals as goal

pub returns : goal.returns
returns c = amount-added
