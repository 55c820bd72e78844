use Rattle.std.proofs.Common.{◌≡◌, ◌≤◌, ◌*◌, ◌^◌, take}
use Rattle.std.specs.Prelude.{unsigned_abs}
use Rattle.crn_linear.specs.Rows.{dot}
use Rattle.crn_feasible.proofs.numbers.dot.Given as goal

abbrev pub invariant-loop-i : goal.invariant-loop-i
invariant-loop-i l = record { value : l.sum ≡ dot (take l.i l.xs) (take l.i l.ys); small : unsigned_abs l.sum ≤ l.i * 2 ^ 118 }
