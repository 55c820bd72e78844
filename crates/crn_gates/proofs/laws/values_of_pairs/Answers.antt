use Rattle.crn_gates.proofs.InRun.{add_in_run, sub_in_run, min_in_run, max_in_run}
use Rattle.crn_gates.proofs.laws.values_of_pairs.Goals as goal

pub returns-clause-add : goal.returns-clause-add
returns-clause-add c = add_in_run

pub returns-clause-sub : goal.returns-clause-sub
returns-clause-sub c = sub_in_run

pub returns-clause-min : goal.returns-clause-min
returns-clause-min c = min_in_run

pub returns-clause-max : goal.returns-clause-max
returns-clause-max c = max_in_run
