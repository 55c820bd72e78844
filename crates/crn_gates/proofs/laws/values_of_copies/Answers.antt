use Rattle.crn_gates.proofs.Settled.{rail_in_run, copy_in_run}
use Rattle.crn_gates.proofs.laws.values_of_copies.Goals as goal

pub returns-clause-rail : goal.returns-clause-rail
returns-clause-rail c = rail_in_run

pub returns-clause-copy : goal.returns-clause-copy
returns-clause-copy c = copy_in_run
