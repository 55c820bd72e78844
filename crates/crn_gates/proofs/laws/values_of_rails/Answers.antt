use Rattle.crn_gates.proofs.InRun.{leaf_one_in_run, min_one_in_run}
use Rattle.crn_gates.proofs.laws.values_of_rails.Goals as goal

pub returns-clause-leaf : goal.returns-clause-leaf
returns-clause-leaf c = leaf_one_in_run

pub returns-clause-min : goal.returns-clause-min
returns-clause-min c = min_one_in_run
