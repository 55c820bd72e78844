use Rattle.crn_segments.proofs.StepCauses.{illegal_cause, unfit_cause}
use Rattle.crn_segments.proofs.laws.illegal_steps.Goals as goal

pub returns-clause-illegal : goal.returns-clause-illegal
returns-clause-illegal c net ok x u seg e cause other legal = illegal_cause net ok x u seg e cause other legal

pub returns-clause-unfit : goal.returns-clause-unfit
returns-clause-unfit c net x u s cause fits = unfit_cause net x u s cause fits
