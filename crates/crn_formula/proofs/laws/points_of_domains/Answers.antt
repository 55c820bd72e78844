use Rattle.crn_formula.proofs.Points.{in_whole_space, in_affine, in_orthant}
use Rattle.crn_formula.proofs.laws.points_of_domains.Goals as goal

pub returns : goal.returns
returns c = record { whole = in_whole_space; affine = in_affine; orthant = in_orthant }
