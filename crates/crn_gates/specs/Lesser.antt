-- The lesser of two inputs.
use Rattle.std.specs.Prelude.{List, [], ◌∷◌, pos}
use Rattle.crn_fraction.specs.Rational.{ℚ, whole, min_ℚ}

-- the lesser of the first two numbers of a list; 0 where there are no two
abbrev pub lesser : List ℚ → ℚ
lesser [] = whole (pos 0)
lesser (x ∷ []) = whole (pos 0)
lesser (x ∷ y ∷ zs) = min_ℚ x y
