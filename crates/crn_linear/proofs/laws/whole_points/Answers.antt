use Rattle.crn_linear.specs.Rows.{dot}
use Rattle.crn_linear.proofs.WholePoints.{meets_whole, above_by_order, at_least_by_order}
use Rattle.crn_linear.proofs.laws.whole_points.Goals as goal

pub returns : goal.returns
returns c = record { meets = meets_whole; strict = λ entries p. above_by_order (dot entries p); weak = λ entries p. at_least_by_order (dot entries p) }
