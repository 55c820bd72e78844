use Rattle.crn_formula.proofs.Firsts.{below_all, one_of_all}
use Rattle.crn_formula.proofs.laws.least_values.Goals as goal

pub returns : goal.returns
returns c = record { below = λ form forms x. below_all x form forms; one = λ form forms x. one_of_all x form forms }
