use Rattle.crn_gated.proofs.KeptJobs.{text_gated_job}
use Rattle.crn_gated.proofs.laws.jobs_keep_the_rules.Goals as goal

pub returns : goal.returns
returns c lines job text low = text_gated_job lines job text low
