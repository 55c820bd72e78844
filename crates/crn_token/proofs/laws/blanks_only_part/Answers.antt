use Rattle.crn_token.proofs.BlankLaws.{said-blank}
use Rattle.crn_token.proofs.laws.blanks_only_part.Goals as goal

pub returns : goal.returns
returns c = λ before after b blank none. said-blank before after b blank none
