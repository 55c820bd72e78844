use Rattle.std.proofs.Common.{◌≡◌, take}
use Rattle.std.specs.Prelude.{All}
use Rattle.std.specs.List.{fold}
use Rattle.crn_fraction.specs.Rational.{min_ℚ}
use Rattle.crn_linear.specs.Forms.{at, IsValueInReach}
use Rattle.crn_formula.proofs.function.least_with.Given as goal

abbrev pub invariant-loop-form : goal.invariant-loop-form
invariant-loop-form l = record {
  value : l.least ≡ fold (λ m f. min_ℚ m (at f l.x)) l.fn.first (take l.form-index l.forms);
  reach : All (λ f. IsValueInReach f l.x) (take l.form-index l.forms);
}
