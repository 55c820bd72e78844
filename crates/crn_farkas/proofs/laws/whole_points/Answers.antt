use Rattle.crn_farkas.proofs.Motzkin.{point_whole}
use Rattle.crn_farkas.proofs.laws.whole_points.Goals as goal

pub returns : goal.returns
returns c = point_whole
