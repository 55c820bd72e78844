use Rattle.std.proofs.Common.{◌≡◌, ℕ, ◌<◌, ◌-◌, ◌++◌, take}
use Rattle.std.specs.Prelude.{replicate}
use Rattle.crn_fraction.specs.Rational.{0ℚ}
use Rattle.crn_linear.specs.Forms.{minus, entry_of}
use Rattle.crn_linear.specs.Cleared.{unit_of, IsSmallFrac}
use Rattle.crn_linear.proofs.units_of.Given as goal

abbrev pub invariant-loop-i : goal.invariant-loop-i
invariant-loop-i l = record {
  filled : l.units ≡ take l.i (unit_of (minus l.a l.b)) ++ replicate (9 - l.i) 0ℚ;
  small : (k : ℕ) → k < l.i → IsSmallFrac (entry_of (unit_of (minus l.a l.b)) k);
}
