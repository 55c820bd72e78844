-- A positive multiple of a list has its direction.
use Rattle.std.proofs.Common.{◌≡◌, ℕ, zero, suc, ◌+◌, ◌*◌, ◌/◌, ◌<◌, List, [], ◌∷◌, map, refl, sym, ap, ap₂, ◌∙◌, arith}
use Rattle.std.specs.Prelude.{ℤ, pos, negsuc, neg_ℤ, ◌*ℤ◌, int_div, unsigned_abs}
use Rattle.std.proofs.lemmas.Int.{unsigned_abs-mul}
use Rattle.std.proofs.lemmas.Nat.{div-mul-add}
use Rattle.std.proofs.lemmas.Nat.Gcd.{same_from_IsGcd}
use Rattle.crn_fraction.specs.Gcd.{gcd, IsGcd-gcd}
use Rattle.crn_fraction.proofs.Integers.{ring_ℤ, z-writes}
use Rattle.crn_fraction.proofs.Scaled.{IsGcd-scaled}
use Rattle.crn_fraction.proofs.Ratios.{times_pos}
use Rattle.crn_linear.specs.Cleared.{common, over}
use Rattle.crn_linear.proofs.Commons.{Divides, Divides-common, common_from, over-back}
use Rattle.crn_feasible.specs.Elimination.{direction}

abbrev times : ℕ → List ℤ → List ℤ
times d ys = map (λ y. pos d *ℤ y) ys

-- ---- quotients of multiples
quotient : (g b : ℕ) → 0 < g → (g * b) / g ≡ b
quotient g b p = let e : g * b ≡ b * g + 0 = omega arith in ap (λ n. n / g) e ∙ div-mul-add b g 0 p

neg_over : (m g q : ℕ) → m / g ≡ q → 0 < m → int_div (neg_ℤ (pos m)) (pos g) ≡ neg_ℤ (pos q)
neg_over zero g q e p = absurd (omega arith)
neg_over (suc m) g q e p = ap (λ k. neg_ℤ (pos k)) e

over_one : (g : ℕ) (z : ℤ) → 0 < g → int_div (pos g *ℤ z) (pos g) ≡ z
over_one g (pos a) p = ap pos (quotient g a p)
over_one g (negsuc b) p = neg_over (g * suc b) g (suc b) (quotient g (suc b) p) (times_pos g (suc b) p (omega arith))

over_times : (g : ℕ) (zs : List ℤ) → 0 < g → over g (times g zs) ≡ zs
over_times g [] p = refl
over_times g (z ∷ zs) p = ap₂ (λ x xs. x ∷ xs) (over_one g z p) (over_times g zs p)

-- ---- the common divisor of multiples
gcd-scaled : (a b k : ℕ) → 0 < k → gcd (a * k) (b * k) ≡ gcd a b * k
gcd-scaled a b k p = same_from_IsGcd (a * k) (b * k) (gcd (a * k) (b * k)) (gcd a b * k) (IsGcd-gcd (a * k) (b * k)) (IsGcd-scaled a b k p)

size_times : (d : ℕ) (y : ℤ) → unsigned_abs (pos d *ℤ y) ≡ unsigned_abs y * d
size_times d y = let e = unsigned_abs-mul (pos d) y in omega (arith, e)

from_times : (d n : ℕ) (ys : List ℤ) → 0 < d → common_from (n * d) (times d ys) ≡ common_from n ys * d
from_times d n [] p = refl
from_times d n (y ∷ ys) p =
    ap (λ g. common_from g (times d ys)) (ap (gcd (n * d)) (size_times d y) ∙ gcd-scaled n (unsigned_abs y) d p)
    ∙ from_times d (gcd n (unsigned_abs y)) ys p

common_times : (d : ℕ) (ys : List ℤ) → 0 < d → common (times d ys) ≡ common ys * d
common_times d ys p = let none : 0 ≡ 0 * d = omega arith in ap (λ n. common_from n (times d ys)) none ∙ from_times d 0 ys p

-- ---- directions
times_again : (c d : ℕ) (zs : List ℤ) → times d (times c zs) ≡ times (c * d) zs
times_again c d [] = refl
times_again c d (z ∷ zs) = ap₂ (λ x xs. x ∷ xs) (one z) (times_again c d zs)
  where
    one : (z : ℤ) → pos d *ℤ (pos c *ℤ z) ≡ pos (c * d) *ℤ z
    one z = ring_ℤ (pos c ∷ pos d ∷ z ∷ []) {y = pos c *ℤ pos d *ℤ z} (search z-writes depth 20) (search z-writes depth 20) refl

some_common : (d : ℕ) (ys : List ℤ) → 0 < d → 0 < common ys → direction (times d ys) ≡ direction ys
unfolding direction
some_common d ys p q =
    let c = common ys in
    let zs = over c ys in
    let back : times c zs ≡ ys = over-back c ys (Divides-common ys) in
    let all : times d ys ≡ times (c * d) zs = ap (times d) (sym back) ∙ times_again c d zs in
    ap (λ g. over g (times d ys)) (common_times d ys p) ∙ ap (over (c * d)) all ∙ over_times (c * d) zs (times_pos c d q p)

-- what is over a divisor has the direction of what it was
pub direction-over : (d : ℕ) (xs : List ℤ) → 0 < d → Divides d xs → 0 < common (over d xs) → direction (over d xs) ≡ direction xs
direction-over d xs p h q = sym (some_common d (over d xs) p q) ∙ ap direction (over-back d xs h)
