use Rattle.std.proofs.Common.{◌≡◌, ◌-◌, ◌++◌, take}
use Rattle.std.specs.Prelude.{replicate}
use Rattle.crn_fraction.specs.Rational.{0ℚ}
use Rattle.crn_linear.proofs.Form.of.Given as goal

abbrev pub invariant-loop-i : goal.invariant-loop-i
invariant-loop-i l = l.places ≡ take l.i l.coeffs ++ replicate (9 - l.i) 0ℚ
