use Rattle.std.proofs.Common.{get_or, ap, zero-add}
use Rattle.crn_fraction.specs.Rational.{0ℚ}
use Rattle.crn_gates.proofs.Terms.{terms_value}
use Rattle.crn_gates.proofs.laws.terms_of_forms.Goals as goal

pub returns : goal.returns
returns c = λ qs ys h. terms_value 0 qs (λ v. get_or ys v 0ℚ) ys h (λ i. ap (λ j. get_or ys j 0ℚ) (zero-add i))
