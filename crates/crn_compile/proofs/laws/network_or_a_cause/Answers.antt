use Rattle.crn_compile.proofs.Decided.{decided}
use Rattle.crn_compile.proofs.laws.network_or_a_cause.Goals as goal

pub returns : goal.returns
returns c = decided
