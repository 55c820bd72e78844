use Rattle.crn_net_text.proofs.Kept.{network_can_end}
use Rattle.crn_net_text.proofs.laws.places_can_end.Goals as goal

pub returns : goal.returns
returns c = network_can_end
