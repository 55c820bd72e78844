use Rattle.std.proofs.Common.{◌≡◌, ◌-◌, ◌++◌, take}
use Rattle.std.specs.Prelude.{replicate, pos}
use Rattle.crn_linear.specs.Rows.{opposite_of}
use Rattle.crn_linear.proofs.opposite.Given as goal

abbrev pub invariant-loop-i : goal.invariant-loop-i
invariant-loop-i l = l.entries ≡ take l.i (opposite_of l.row.entries) ++ replicate (9 - l.i) (pos 0)
