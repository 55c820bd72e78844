-- A sum of products of whole numbers, product by product.
use Rattle.std.proofs.Common.{◌≡◌, ℕ, zero, suc, ◌+◌, ◌*◌, ◌<◌, ◌≤◌, ◌^◌, List, [], ◌∷◌, length, get_or, take, refl, sym, ap, ap₂, ◌∙◌, arith, to_z, of_z, add-one, replicate}
use Rattle.std.specs.Prelude.{ℤ, pos, ◌+ℤ◌, ◌*ℤ◌, unsigned_abs}
use Rattle.std.specs.Int.{w128}
use Rattle.std.proofs.lemmas.Int.{ints, unsigned_abs-mul}
use Rattle.std.proofs.lemmas.Nat.{mul-le}
use Rattle.crn_fraction.proofs.Integers.{ring_ℤ, z-writes}
use Rattle.crn_linear.specs.Rows.{dot, IsSmall}

more : (i : ℕ) (xs ys : List ℤ) → i < length xs → i < length ys → dot (take (suc i) xs) (take (suc i) ys) ≡ dot (take i xs) (take i ys) +ℤ get_or xs i (pos 0) *ℤ get_or ys i (pos 0)
more i [] ys h k = absurd (omega arith)
more i (x ∷ xs) [] h k = absurd (omega arith)
more zero (x ∷ xs) (y ∷ ys) h k = ring_ℤ (x ∷ y ∷ []) (search z-writes depth 20) (search z-writes depth 20) refl
more (suc i) (x ∷ xs) (y ∷ ys) h k =
    rw (more i xs ys (omega arith) (omega arith))
    (ring_ℤ (x ∷ y ∷ dot (take i xs) (take i ys) ∷ get_or xs i (pos 0) ∷ get_or ys i (pos 0) ∷ []) (search z-writes depth 20) (search z-writes depth 20) refl)

-- one more product
pub dot_more : (i : ℕ) (xs ys : List ℤ) (s p t : ℤ) → length xs ≡ length ys → i < length xs → s ≡ dot (take i xs) (take i ys) → p ≡ get_or xs i (pos 0) *ℤ get_or ys i (pos 0) → t ≡ s +ℤ p
    → t ≡ dot (take (i + 1) xs) (take (i + 1) ys)
dot_more i xs ys s p t e l f g h = h ∙ ap₂ (λ a b. a +ℤ b) f g ∙ sym (rw add-one (more i xs ys l (omega (arith, e))))

-- the product of two small numbers is so small
pub product_small : (a b p : ℤ) → IsSmall a → IsSmall b → p ≡ a *ℤ b → unsigned_abs p ≤ 2 ^ 118
product_small a b p h k e =
    let size : unsigned_abs p ≡ unsigned_abs a * unsigned_abs b = ap unsigned_abs e ∙ unsigned_abs-mul a b in
    let most = mul-le (unsigned_abs a) (unsigned_abs b) (2 ^ 59) (2 ^ 59) h.size k.size in
    omega (arith, size, most)

-- the sum of at most 256 products fits 128 bits
pub sum_fits : (s p : ℤ) (i n : ℕ) → unsigned_abs s ≤ i * 2 ^ 118 → unsigned_abs p ≤ 2 ^ 118 → i < n → n ≤ 256 → to_z w128 (of_z w128 (s +ℤ to_z w128 (of_z w128 p))) ≡ s +ℤ p
sum_fits s p i n h k l m = omega (arith, ints)

-- and so small it stays
pub sum_small : (s p : ℤ) (i : ℕ) → unsigned_abs s ≤ i * 2 ^ 118 → unsigned_abs p ≤ 2 ^ 118 → unsigned_abs (s +ℤ p) ≤ (i + 1) * 2 ^ 118
sum_small s p i h k = omega (arith, ints)

-- zeros have the value 0 everywhere
pub dot-zeros : (n : ℕ) (xs : List ℤ) → dot (replicate n (pos 0)) xs ≡ pos 0
dot-zeros zero xs = refl
dot-zeros (suc n) [] = refl
dot-zeros (suc n) (x ∷ xs) = rw (dot-zeros n xs) (omega (arith, ints))
