use Rattle.std.proofs.Common.{◌≤◌, ◌^◌, take}
use Rattle.std.specs.Prelude.{unsigned_abs}
use Rattle.std.specs.List.{All}
use Rattle.crn_feasible.proofs.two_columns.are_short.Given as goal

abbrev pub invariant-loop-row : goal.invariant-loop-row
invariant-loop-row l = All (λ r. All (λ z. unsigned_abs z ≤ 2 ^ 14) r.entries) (take l.row-index l.rows)
