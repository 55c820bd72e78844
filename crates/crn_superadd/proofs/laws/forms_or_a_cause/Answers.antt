use Rattle.crn_superadd.proofs.Decided.{decided}
use Rattle.crn_superadd.proofs.laws.forms_or_a_cause.Goals as goal

pub returns : goal.returns
returns c = decided
