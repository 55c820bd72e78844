use Rattle.crn_net.proofs.Settling.{confluent}
use Rattle.crn_net.proofs.laws.confluence.Goals as goal

pub returns : goal.returns
returns c = confluent
