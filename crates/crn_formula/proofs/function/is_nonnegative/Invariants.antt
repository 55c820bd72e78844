use Rattle.std.proofs.Common.{ℕ, ◌<◌}
use Rattle.crn_fraction.specs.Rational.{0ℚ, ◌≤ℚ◌}
use Rattle.crn_linear.specs.Forms.{entry_of}
use Rattle.crn_formula.proofs.function.is_nonnegative.Given as goal

abbrev pub invariant-loop-i : goal.invariant-loop-i
invariant-loop-i l = (k : ℕ) → k < l.i → 0ℚ ≤ℚ entry_of l.form k
