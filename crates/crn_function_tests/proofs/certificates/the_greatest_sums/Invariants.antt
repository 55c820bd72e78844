use Rattle.std.proofs.Common.{◌≡◌, ◌+◌, length}
use Rattle.crn_function_tests.proofs.certificates.the_greatest_sums.Given as goal

abbrev pub invariant-loop-i : goal.invariant-loop-i
invariant-loop-i g l = record { columns : l.system.system.columns ≡ 9; room : l.system.room ≡ 256; rows : length l.system.system.rows ≡ l.i }

abbrev pub invariant-loop-i-2 : goal.invariant-loop-i-2
invariant-loop-i-2 g l = record { columns : l.system.system.columns ≡ 9; room : l.system.room ≡ 256; rows : length l.system.system.rows ≡ 128 + l.i }
