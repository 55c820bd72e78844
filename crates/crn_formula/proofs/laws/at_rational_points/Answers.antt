use Rattle.crn_formula.proofs.Multiples.{covered, one_value}
use Rattle.crn_formula.proofs.laws.at_rational_points.Goals as goal

pub returns : goal.returns
returns c = record { cover = covered; agree = one_value }
