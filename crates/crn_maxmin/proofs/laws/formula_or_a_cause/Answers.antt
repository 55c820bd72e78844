use Rattle.crn_maxmin.proofs.Decided.{decided}
use Rattle.crn_maxmin.proofs.laws.formula_or_a_cause.Goals as goal

pub returns : goal.returns
returns c = decided
