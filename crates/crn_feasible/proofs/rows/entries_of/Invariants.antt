use Rattle.std.proofs.Common.{◌≡◌, ◌-◌, ◌++◌, take}
use Rattle.std.specs.Prelude.{replicate, pos}
use Rattle.crn_feasible.proofs.rows.entries_of.Given as goal

abbrev pub invariant-loop-column : goal.invariant-loop-column
invariant-loop-column l = l.places ≡ take l.column l.row.entries ++ replicate (9 - l.column) (pos 0)
