use Rattle.crn_gates.proofs.InRun.{scale_in_run, leaf_in_run}
use Rattle.crn_gates.proofs.laws.values_of_scales.Goals as goal

pub returns-clause-scale : goal.returns-clause-scale
returns-clause-scale c = scale_in_run

pub returns-clause-leaf : goal.returns-clause-leaf
returns-clause-leaf c = leaf_in_run
