use Rattle.crn_pieces.proofs.Decided.{decided}
use Rattle.crn_pieces.proofs.laws.checked_or_refused.Goals as goal

pub returns : goal.returns
returns c = λ domain pieces is_domain over some. decided domain is_domain pieces over some
