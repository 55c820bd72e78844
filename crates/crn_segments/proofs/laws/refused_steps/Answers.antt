use Rattle.crn_segments.proofs.StepCauses.{refused_step, step_refused}
use Rattle.crn_segments.proofs.laws.refused_steps.Goals as goal

pub returns : goal.returns
returns c net ok x u seg e = (refused_step net ok x u seg e, step_refused net ok x u seg e)
