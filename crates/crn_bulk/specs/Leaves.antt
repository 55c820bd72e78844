-- The leaves of a formula, and a list in halves.
use Rattle.std.specs.Prelude.{◌+◌, ◌≤◌, List, [], ◌∷◌, ◌++◌, length}
use Rattle.crn_fraction.specs.Rational.{ℚ}
use Rattle.crn_formula.specs.Formulas.{Formula, Lin, Add, Sub, Scale, Min, Max}

-- the leaves of a formula from left to right
abbrev pub leaves_of : Formula → List (List ℚ)
leaves_of (Lin form) = form ∷ []
leaves_of (Add a b) = leaves_of a ++ leaves_of b
leaves_of (Sub a b) = leaves_of a ++ leaves_of b
leaves_of (Scale q a) = leaves_of a
leaves_of (Min a b) = leaves_of a ++ leaves_of b
leaves_of (Max a b) = leaves_of a ++ leaves_of b

-- neither list is empty, and the left one is as long as the right one or one longer
pub record AreHalves {X : Type 0} (left right : List X) : Type 0 where
  pub some : 1 ≤ length right
  pub more : length right ≤ length left
  pub few : length left ≤ length right + 1
