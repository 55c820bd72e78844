use Rattle.crn_same.proofs.OneAnswer.{alike, limit_beside}
use Rattle.crn_same.proofs.laws.one_answer.Goals as goal

pub returns-clause-alike : goal.returns-clause-alike
returns-clause-alike c = λ k f g d e m n r s. alike k f g d e m n r s

pub returns-clause-limit : goal.returns-clause-limit
returns-clause-limit c = λ k f g e m shown r. limit_beside k f g e m shown r
