use Rattle.crn_gates.proofs.BuildingLaws.{add_stamps, sub_stamps, min_stamps, max_stamps}
use Rattle.crn_gates.proofs.laws.stamped_pairs.Goals as goal

pub returns-clause-add : goal.returns-clause-add
returns-clause-add c = add_stamps

pub returns-clause-sub : goal.returns-clause-sub
returns-clause-sub c = sub_stamps

pub returns-clause-min : goal.returns-clause-min
returns-clause-min c = min_stamps

pub returns-clause-max : goal.returns-clause-max
returns-clause-max c = max_stamps
