-- The value of a row at a point with one more coordinate.
use Rattle.std.proofs.Common.{◌≡◌, List, [], ◌∷◌, ◌++◌, length, get_or, refl}
use Rattle.std.specs.Prelude.{ℤ, pos}
use Rattle.crn_fraction.specs.Rational.{ℚ, whole, ◌+ℚ◌, ◌*ℚ◌}
use Rattle.crn_fraction.proofs.Ring.{ring_ℚ, q-writes}
use Rattle.crn_linear.specs.Rows.{value}

-- ---- at no point
pub value-nil : (as_ : List ℤ) → value as_ [] ≡ whole (pos 0)
value-nil [] = refl
value-nil (a ∷ rest) = refl

-- ---- one more coordinate
pub value-push : (r : List ℤ) (xs : List ℚ) (x : ℚ) → value r (xs ++ x ∷ []) ≡ value r xs +ℚ whole (get_or r (length xs) (pos 0)) *ℚ x
value-push [] xs x = ring_ℚ (x ∷ []) (search q-writes depth 20) (search q-writes depth 20) refl
value-push (a ∷ r) [] x = rw (value-nil r) (ring_ℚ (whole a ∷ x ∷ []) (search q-writes depth 20) (search q-writes depth 20) refl)
value-push (a ∷ r) (y ∷ xs) x =
    rw (value-push r xs x)
    (ring_ℚ (whole a ∷ y ∷ value r xs ∷ whole (get_or r (length xs) (pos 0)) ∷ x ∷ []) (search q-writes depth 20) (search q-writes depth 20) refl)
