use Rattle.std.proofs.Common.{ℕ, ◌<◌, get_or}
use Rattle.crn_linear.specs.Rows.{MeetsWhole}
use Rattle.crn_farkas.specs.Systems.{no_row}
use Rattle.crn_farkas.proofs.holds.Given as goal

abbrev pub invariant-loop-row : goal.invariant-loop-row
invariant-loop-row l = (k : ℕ) → k < l.row-index → MeetsWhole (get_or l.row-items k no_row) l.point
