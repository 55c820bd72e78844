use Rattle.crn_net.proofs.Settling.{completes}
use Rattle.crn_net.proofs.laws.completions.Goals as goal

pub returns : goal.returns
returns c = completes
