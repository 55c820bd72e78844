-- What is asked of forms by rows.
use Rattle.std.specs.Prelude.{true, false, List}
use Rattle.crn_fraction.specs.Rational.{ℚ}
use Rattle.crn_linear.specs.Forms.{minus}
use Rattle.crn_linear.specs.Rows.{Row}
use Rattle.crn_linear.specs.Cleared.{cleared}

-- the form is at least 0
abbrev pub condition_row : List ℚ → Row
condition_row form = record { entries = cleared form; strict = false }

-- the first form is above the second
abbrev pub above_row : (a b : List ℚ) → Row
above_row a b = record { entries = cleared (minus a b); strict = true }
