-- Forms whose entries are fractions that fit.
use Rattle.std.specs.Prelude.{List, [], ◌∷◌}
use Rattle.crn_fraction.specs.Rational.{ℚ}
use Rattle.crn_fraction.specs.Frac.{IsFrac}

-- each number is a fraction that fits
abbrev pub AreFracs : List ℚ → Type 0
AreFracs [] = Unit {0}
AreFracs (q ∷ qs) = IsFrac q × AreFracs qs

-- each number of each form
abbrev pub AreFormFracs : List (List ℚ) → Type 0
AreFormFracs [] = Unit {0}
AreFormFracs (form ∷ forms) = AreFracs form × AreFormFracs forms
