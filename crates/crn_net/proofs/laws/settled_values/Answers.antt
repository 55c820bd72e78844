use Rattle.crn_net.proofs.Computes.{computes_made}
use Rattle.crn_net.proofs.Start.{start_not_negative}
use Rattle.crn_net.proofs.laws.settled_values.Goals as goal

pub returns : goal.returns
returns c = λ net ok ff free xs h. computes_made net ok ff free xs (start_not_negative net xs h)
