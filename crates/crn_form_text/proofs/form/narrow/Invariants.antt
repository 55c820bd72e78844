use Rattle.std.proofs.Common.{◌≡◌, ◌-◌, ◌++◌, take}
use Rattle.std.specs.Prelude.{replicate}
use Rattle.crn_fraction.specs.Rational.{0ℚ}
use Rattle.crn_form_text.proofs.form.narrow.Given as goal

abbrev pub invariant-loop-i : goal.invariant-loop-i
invariant-loop-i l = l.coeffs ≡ take l.i l.form ++ replicate (9 - l.i) 0ℚ
