use Rattle.std.proofs.Common.{ℕ, ◌<◌, get_or}
use Rattle.std.specs.Prelude.{pos, ◌<ℤ◌, IsTrue}
use Rattle.crn_farkas.specs.Systems.{no_row}
use Rattle.crn_farkas.proofs.has_strict.Given as goal

abbrev pub invariant-loop-i : goal.invariant-loop-i
invariant-loop-i l = (k : ℕ) → k < l.i → IsTrue (get_or l.rows k no_row).strict → pos 0 <ℤ get_or l.multipliers k (pos 0) → ⊥
