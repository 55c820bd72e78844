use Rattle.crn_gates.proofs.BuildingLaws.{scale_stamps, leaf_stamps}
use Rattle.crn_gates.proofs.laws.stamped_scales.Goals as goal

pub returns-clause-scale : goal.returns-clause-scale
returns-clause-scale c = scale_stamps

pub returns-clause-leaf : goal.returns-clause-leaf
returns-clause-leaf c = leaf_stamps
