-- What `==` answers of two forms, two points and two rows.
use Rattle.std.specs.Prelude.{Bool, ℤ, List}
use Rattle.crn_fraction.specs.Rational.{ℚ}
use Rattle.crn_linear.specs.Rows.{Row}
use Rattle.crn_linear.specs.contracts.FormPartialEq.TheImpl as form
use Rattle.crn_linear.specs.contracts.PointPartialEq.TheImpl as point
use Rattle.crn_linear.specs.contracts.RowPartialEq.TheImpl as row

abbrev pub eq_forms : List ℚ → List ℚ → Bool
eq_forms = form.eq-value.it

abbrev pub eq_points : List ℤ → List ℤ → Bool
eq_points = point.eq-value.it

abbrev pub eq_rows : Row → Row → Bool
eq_rows = row.eq-value.it
