use Rattle.crn_cells.proofs.Decided.{decided}
use Rattle.crn_cells.proofs.laws.cells_or_a_cause.Goals as goal

pub returns : goal.returns
returns c = decided
