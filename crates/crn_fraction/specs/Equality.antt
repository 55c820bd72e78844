-- What `==` answers of two fractions.
use Rattle.std.specs.Prelude.{Bool}
use Rattle.crn_fraction.specs.Rational.{ℚ}
use Rattle.crn_fraction.specs.contracts.FracPartialEq.TheImpl as fraction

abbrev pub eq_fractions : ℚ → ℚ → Bool
eq_fractions = fraction.eq-value.it
