use Rattle.crn_job.proofs.KeptJobs.{text_job, text_run_job}
use Rattle.crn_job.proofs.laws.texts_keep_the_rules.Goals as goal

pub returns-clause-job : goal.returns-clause-job
returns-clause-job c lines job text low = text_job lines job text low

pub returns-clause-run : goal.returns-clause-run
returns-clause-run c lines job text low = text_run_job lines job text low
