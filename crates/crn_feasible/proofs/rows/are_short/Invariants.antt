use Rattle.std.proofs.Common.{take}
use Rattle.std.specs.List.{All}
use Rattle.crn_feasible.specs.Steps.{IsShort}
use Rattle.crn_feasible.proofs.rows.are_short.Given as goal

abbrev pub invariant-loop-row : goal.invariant-loop-row
invariant-loop-row l = All (IsShort l.columns) (take l.row-index l.rows)
