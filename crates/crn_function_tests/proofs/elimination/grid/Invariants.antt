use Rattle.std.proofs.Common.{◌≡◌, ◌+◌, length}
use Rattle.crn_function_tests.proofs.elimination.grid.Given as goal

abbrev pub invariant-loop-i : goal.invariant-loop-i
invariant-loop-i l = record { columns : l.system.system.columns ≡ 4; room : l.system.room ≡ 129; rows : length l.system.system.rows ≡ l.i }

abbrev pub invariant-loop-j : goal.invariant-loop-j
invariant-loop-j l = record { columns : l.system.system.columns ≡ 4; room : l.system.room ≡ 129; rows : length l.system.system.rows ≡ l.first + l.j }
