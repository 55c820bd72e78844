use Rattle.std.proofs.Common.{ap}
use Rattle.crn_token.specs.Plain.{plain_from}
use Rattle.crn_token.proofs.BlankLaws.{comment_cut}
use Rattle.crn_token.proofs.laws.comments_say_nothing.Goals as goal

pub returns : goal.returns
returns c = λ line comment. ap (plain_from 0) (comment_cut line comment)
