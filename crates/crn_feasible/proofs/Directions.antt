-- A list mixed with itself, and the length of a direction.
use Rattle.std.proofs.Common.{◌≡◌, List, [], ◌∷◌, length, refl, ap₂, arith}
use Rattle.std.specs.Prelude.{ℤ, pos, ◌+ℤ◌, ◌*ℤ◌}
use Rattle.std.proofs.lemmas.Int.{ints}
use Rattle.crn_farkas.specs.Mixtures.{mixed}
use Rattle.crn_feasible.specs.Elimination.{direction}
use Rattle.crn_linear.specs.Cleared.{common}
use Rattle.crn_linear.proofs.Commons.{length-over}

-- once a list and not at all another
pub mixed-one : (xs : List ℤ) → mixed (pos 1) xs (pos 0) xs ≡ xs
mixed-one [] = refl
mixed-one (x ∷ xs) = let e : pos 1 *ℤ x +ℤ pos 0 *ℤ x ≡ x = omega (arith, ints) in ap₂ (λ y ys. y ∷ ys) e (mixed-one xs)

pub length-direction : (xs : List ℤ) → length (direction xs) ≡ length xs
unfolding direction
length-direction xs = length-over (common xs) xs
