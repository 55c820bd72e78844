use Rattle.crn_token.proofs.SmallNumbers.{lines_small}
use Rattle.crn_token.proofs.laws.numbers_are_small.Goals as goal

pub returns : goal.returns
returns c bytes = lines_small bytes
