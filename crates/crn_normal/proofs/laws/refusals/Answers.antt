use Rattle.crn_normal.proofs.Exclusive.{one_first, none_first}
use Rattle.crn_normal.proofs.Decided.{decided}
use Rattle.crn_normal.proofs.laws.refusals.Goals as goal

pub returns-clause-one : goal.returns-clause-one
returns-clause-one c = λ steps d e m n f g. one_first steps d e m n f g

pub returns-clause-none : goal.returns-clause-none
returns-clause-none c = λ steps e n p f. none_first steps e n p f

pub returns-clause-some : goal.returns-clause-some
returns-clause-some c = λ steps. decided steps
