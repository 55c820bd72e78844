use Rattle.crn_net_text.proofs.Sizes.{small_text, text_small}
use Rattle.crn_net_text.proofs.laws.limits_are_those_of_networks.Goals as goal

pub returns : goal.returns
returns c lines net text = (text_small lines net text, small_text lines net text)
