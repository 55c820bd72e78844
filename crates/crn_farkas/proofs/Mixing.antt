-- Sums of products at sums of multiples of rows.
use Rattle.std.proofs.Common.{◌≡◌, ℕ, zero, suc, List, [], ◌∷◌, get_or, refl, ◌∙◌, arith}
use Rattle.std.specs.Prelude.{ℤ, pos, ◌+ℤ◌, ◌*ℤ◌}
use Rattle.std.proofs.lemmas.Int.{ints}
use Rattle.crn_fraction.specs.Rational.{ℚ, whole, ◌+ℚ◌, ◌*ℚ◌}
use Rattle.crn_fraction.proofs.Integers.{ring_ℤ, z-writes}
use Rattle.crn_fraction.proofs.Ring.{ring_ℚ, q-writes, whole-+ℤ, whole-*ℤ}
use Rattle.crn_linear.specs.Rows.{dot, value}
use Rattle.crn_farkas.specs.Mixtures.{times, mixed}

-- ---- multiples
pub value-times : (k : ℤ) (r : List ℤ) (xs : List ℚ) → value (times k r) xs ≡ whole k *ℚ value r xs
value-times k [] xs = ring_ℚ (whole k ∷ []) (search q-writes depth 20) (search q-writes depth 20) refl
value-times k (a ∷ r) [] = ring_ℚ (whole k ∷ []) (search q-writes depth 20) (search q-writes depth 20) refl
value-times k (a ∷ r) (x ∷ xs) =
    rw (value-times k r xs, whole-*ℤ k a)
    (ring_ℚ (whole k ∷ whole a ∷ x ∷ value r xs ∷ []) (search q-writes depth 20) (search q-writes depth 20) refl)

pub dot-times : (k : ℤ) (r xs : List ℤ) → dot (times k r) xs ≡ k *ℤ dot r xs
dot-times k [] xs = omega (arith, ints)
dot-times k (a ∷ r) [] = omega (arith, ints)
dot-times k (a ∷ r) (x ∷ xs) =
    rw (dot-times k r xs) (ring_ℤ (k ∷ a ∷ x ∷ dot r xs ∷ []) (search z-writes depth 20) (search z-writes depth 20) refl)

pub get_or-times : (k : ℤ) (r : List ℤ) (v : ℕ) → get_or (times k r) v (pos 0) ≡ k *ℤ get_or r v (pos 0)
get_or-times k [] v = omega (arith, ints)
get_or-times k (a ∷ r) zero = refl
get_or-times k (a ∷ r) (suc v) = get_or-times k r v

-- ---- sums of multiples
pub value-mixed : (a : ℤ) (r : List ℤ) (b : ℤ) (s : List ℤ) (xs : List ℚ) → value (mixed a r b s) xs ≡ whole a *ℚ value r xs +ℚ whole b *ℚ value s xs
value-mixed a [] b s xs = rw (value-times b s xs) (ring_ℚ (whole a ∷ whole b ∷ value s xs ∷ []) (search q-writes depth 20) (search q-writes depth 20) refl)
value-mixed a (u ∷ r) b [] xs = rw (value-times a (u ∷ r) xs) (ring_ℚ (whole a ∷ whole b ∷ value (u ∷ r) xs ∷ []) (search q-writes depth 20) (search q-writes depth 20) refl)
value-mixed a (u ∷ r) b (v ∷ s) [] = ring_ℚ (whole a ∷ whole b ∷ []) (search q-writes depth 20) (search q-writes depth 20) refl
value-mixed a (u ∷ r) b (v ∷ s) (x ∷ xs) =
    rw (value-mixed a r b s xs, whole-+ℤ (a *ℤ u) (b *ℤ v), whole-*ℤ a u, whole-*ℤ b v)
    (ring_ℚ (whole a ∷ whole b ∷ whole u ∷ whole v ∷ x ∷ value r xs ∷ value s xs ∷ []) (search q-writes depth 20) (search q-writes depth 20) refl)

pub dot-mixed : (a : ℤ) (r : List ℤ) (b : ℤ) (s xs : List ℤ) → dot (mixed a r b s) xs ≡ a *ℤ dot r xs +ℤ b *ℤ dot s xs
dot-mixed a [] b s xs = rw (dot-times b s xs) (ring_ℤ (a ∷ b ∷ dot s xs ∷ []) (search z-writes depth 20) (search z-writes depth 20) refl)
dot-mixed a (u ∷ r) b [] xs = rw (dot-times a (u ∷ r) xs) (ring_ℤ (a ∷ b ∷ dot (u ∷ r) xs ∷ []) (search z-writes depth 20) (search z-writes depth 20) refl)
dot-mixed a (u ∷ r) b (v ∷ s) [] = ring_ℤ (a ∷ b ∷ []) (search z-writes depth 20) (search z-writes depth 20) refl
dot-mixed a (u ∷ r) b (v ∷ s) (x ∷ xs) =
    rw (dot-mixed a r b s xs)
    (ring_ℤ (a ∷ b ∷ u ∷ v ∷ x ∷ dot r xs ∷ dot s xs ∷ []) (search z-writes depth 20) (search z-writes depth 20) refl)

pub get_or-mixed : (a : ℤ) (r : List ℤ) (b : ℤ) (s : List ℤ) (v : ℕ) → get_or (mixed a r b s) v (pos 0) ≡ a *ℤ get_or r v (pos 0) +ℤ b *ℤ get_or s v (pos 0)
get_or-mixed a [] b s v = get_or-times b s v ∙ omega (arith, ints)
get_or-mixed a (u ∷ r) b [] v = get_or-times a (u ∷ r) v ∙ omega (arith, ints)
get_or-mixed a (u ∷ r) b (w ∷ s) zero = refl
get_or-mixed a (u ∷ r) b (w ∷ s) (suc v) = get_or-mixed a r b s v

-- ---- zeros
-- a row of zeros has the value 0 at each point
pub value-zeros : (r : List ℤ) (xs : List ℚ) → ((v : ℕ) → get_or r v (pos 0) ≡ pos 0) → value r xs ≡ whole (pos 0)
value-zeros [] xs h = refl
value-zeros (a ∷ r) [] h = refl
value-zeros (a ∷ r) (x ∷ xs) h =
    let first : a ≡ pos 0 = h 0 in
    rw (first, value-zeros r xs (λ v. h (suc v))) (ring_ℚ (x ∷ []) (search q-writes depth 20) (search q-writes depth 20) refl)
