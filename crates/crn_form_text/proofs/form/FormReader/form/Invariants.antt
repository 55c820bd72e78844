use Rattle.std.proofs.Common.{◌≡◌, ◌-◌, ◌++◌, take, map}
use Rattle.std.specs.Prelude.{replicate, unwrap_or}
use Rattle.crn_fraction.specs.Rational.{0ℚ}
use Rattle.crn_form_text.proofs.form.FormReader.form.Given as goal

abbrev pub invariant-loop-i : goal.invariant-loop-i
invariant-loop-i l = l.coeffs ≡ take l.i (map (λ e. unwrap_or e 0ℚ) l.self.entries) ++ replicate (9 - l.i) 0ℚ
