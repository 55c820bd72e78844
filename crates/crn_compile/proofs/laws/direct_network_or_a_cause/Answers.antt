use Rattle.crn_compile.proofs.DirectDecided.{direct_decided}
use Rattle.crn_compile.proofs.laws.direct_network_or_a_cause.Goals as goal

pub returns : goal.returns
returns c = direct_decided
