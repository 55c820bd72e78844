-- Sums of multiples of rows.
use Rattle.std.specs.Prelude.{ℤ, ◌+ℤ◌, ◌*ℤ◌, List, [], ◌∷◌, map}

-- each number times k
abbrev pub times : ℤ → List ℤ → List ℤ
times k xs = map (λ x. k *ℤ x) xs

-- a times the first list plus b times the second, with 0 past the end of the shorter one
abbrev pub mixed : (a : ℤ) → List ℤ → (b : ℤ) → List ℤ → List ℤ
mixed a [] b ys = times b ys
mixed a (x ∷ xs) b [] = times a (x ∷ xs)
mixed a (x ∷ xs) b (y ∷ ys) = (a *ℤ x +ℤ b *ℤ y) ∷ mixed a xs b ys
