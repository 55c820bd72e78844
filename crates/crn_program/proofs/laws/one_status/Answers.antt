use Rattle.crn_program.proofs.OneStatus.{one_status}
use Rattle.crn_program.proofs.laws.one_status.Goals as goal

pub returns : goal.returns
returns c = one_status
