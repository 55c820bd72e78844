use Rattle.crn_segments.proofs.Runs.{steps_run, run_steps}
use Rattle.crn_segments.proofs.laws.steps_are_runs.Goals as goal

pub returns : goal.returns
returns c net ok x us d segs = (steps_run net x us d segs, run_steps net ok x us d segs)
