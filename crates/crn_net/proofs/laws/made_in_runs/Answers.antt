use Rattle.crn_net.proofs.InRun.{made_in_run}
use Rattle.crn_net.proofs.laws.made_in_runs.Goals as goal

pub returns : goal.returns
returns c = made_in_run
