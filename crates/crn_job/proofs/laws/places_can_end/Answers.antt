use Rattle.crn_job.proofs.JobLaws.{job_places_can_end, tail_places_can_end}
use Rattle.crn_job.proofs.RunLaws.{run_places_can_end}
use Rattle.crn_job.proofs.laws.places_can_end.Goals as goal

pub returns-clause-job : goal.returns-clause-job
returns-clause-job c = job_places_can_end

pub returns-clause-run : goal.returns-clause-run
returns-clause-run c = run_places_can_end

pub returns-clause-tail : goal.returns-clause-tail
returns-clause-tail c kind inputs = tail_places_can_end kind inputs
