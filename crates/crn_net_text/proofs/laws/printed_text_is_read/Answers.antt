use Rattle.crn_net_text.proofs.Prints.{printed_is_text}
use Rattle.crn_net_text.proofs.laws.printed_text_is_read.Goals as goal

pub returns : goal.returns
returns c = printed_is_text
