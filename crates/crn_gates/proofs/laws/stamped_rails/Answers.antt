use Rattle.crn_gates.proofs.BuildingLaws.{leaf_one_stamps, min_one_stamps}
use Rattle.crn_gates.proofs.laws.stamped_rails.Goals as goal

pub returns-clause-leaf : goal.returns-clause-leaf
returns-clause-leaf c = leaf_one_stamps

pub returns-clause-min : goal.returns-clause-min
returns-clause-min c = min_one_stamps
