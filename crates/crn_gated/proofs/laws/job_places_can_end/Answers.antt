use Rattle.crn_gated.proofs.JobLaws.{gated_job_can_end}
use Rattle.crn_gated.proofs.laws.job_places_can_end.Goals as goal

pub returns : goal.returns
returns c = gated_job_can_end
