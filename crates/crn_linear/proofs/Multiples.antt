-- The cleared row is a positive multiple of its form, and nothing but 1 divides all of its entries unless they are all 0.
use Rattle.std.proofs.Common.{◌≡◌, ◌≢◌, inl, inr, ⊎_elim, ℕ, zero, suc, ◌*◌, ◌/◌, ◌<◌, ◌≤◌, List, [], ◌∷◌, length, map, refl, sym, ap, ap₂, ◌∙◌, subst, arith}
use Rattle.std.specs.Prelude.{pos, ◌*ℤ◌, unsigned_abs}
use Rattle.std.specs.List.{All}
use Rattle.std.specs.Int.{◌∣◌}
use Rattle.std.proofs.lemmas.Int.{ints, unsigned_abs-mul}
use Rattle.std.proofs.lemmas.Nat.Gcd.{le_of_dvd}
use Rattle.std.proofs.Math.Nat.{div-mul_cancel, mul-dvd-mul_left, dvd_of_mul-dvd-mul_right, pos_of_dvd_of_pos, div-one}
use Rattle.crn_fraction.specs.Rational.{ℚ, whole, 0ℚ, ◌*ℚ◌, ◌/ℚ◌, inverse_ℚ}
use Rattle.crn_fraction.specs.Parts.{ratio_self}
use Rattle.crn_fraction.proofs.Wholes.{num-whole}
use Rattle.crn_fraction.proofs.Integers.{ring_ℤ, z-writes}
use Rattle.crn_fraction.proofs.Core.{ratio_same}
use Rattle.crn_fraction.proofs.Ratios.{over-whole-*ℚ}
use Rattle.crn_fraction.proofs.Ring.{zero-*ℚ}
use Rattle.crn_fraction.proofs.Lowest.{dvd_other}
use Rattle.crn_fraction.proofs.Products.{/ℚ-is, /ℚ-positive, *ℚ-/ℚ_assoc, whole_positive, positive_of_num}
use Rattle.crn_fraction.specs.Gcd.{factor_positive}
use Rattle.crn_linear.specs.Forms.{entry_of, wholes}
use Rattle.crn_linear.specs.Cleared.{IsMultiple, HaveNoDivisor, IsCleared, pivot, common_den, unit_of, numerator_over, numerators, cleared, size_ℚ}
use Rattle.crn_linear.proofs.Denominators.{den-dvd-common_den, common_den-positive, common_den-least}
use Rattle.crn_linear.proofs.Minus.{all_of}
use Rattle.crn_linear.proofs.Units.{pivot_cases, pivot_positive, length-unit_of, entry-unit_of, length-numerators, entry-numerators, unit_sign, IsSign}

-- ---- a positive multiple
-- the numerator over a multiple of the denominator is that many times the number
pub numerator_is : (m : ℕ) (u : ℚ) → u.den ∣ m → whole (numerator_over m u) ≡ whole (pos m) *ℚ u
numerator_is m u h =
    let s = m / u.den in
    let split : s * u.den ≡ m = div-mul_cancel u.den h in
    let cross : (u.num *ℤ pos s) *ℤ pos u.den ≡ (pos m *ℤ u.num) *ℤ pos 1 =
    ring_ℤ (u.num ∷ pos s ∷ pos u.den ∷ []) {y = ((pos s *ℤ pos u.den) *ℤ u.num) *ℤ pos 1} (search z-writes depth 20) (search z-writes depth 20) refl
    ∙ ap (λ n. (pos n *ℤ u.num) *ℤ pos 1) split in
    ratio_same (u.num *ℤ pos s) (pos m *ℤ u.num) 1 u.den (omega arith) u.lowest.positive cross
    ∙ sym (over-whole-*ℚ (pos m) u.num u.den u.lowest.positive) ∙ ap (λ q. whole (pos m) *ℚ q) (ratio_self u)

wholes_are : (m : ℕ) (us : List ℚ) → ((i : ℕ) → i < length us → (entry_of us i).den ∣ m) → wholes (map (numerator_over m) us) ≡ map (λ u. whole (pos m) *ℚ u) us
wholes_are m [] h = refl
wholes_are m (u ∷ us) h = ap₂ (λ x xs. x ∷ xs) (numerator_is m u (h 0 (omega arith))) (wholes_are m us (λ i l. h (suc i) (omega arith)))

regrouped : (a p : ℚ) (xs : List ℚ) → map (λ u. a *ℚ u) (map (λ x. x /ℚ p) xs) ≡ map (λ x. (a /ℚ p) *ℚ x) xs
regrouped a p [] = refl
regrouped a p (x ∷ xs) = ap₂ (λ y ys. y ∷ ys) (*ℚ-/ℚ_assoc a x p) (regrouped a p xs)

-- the numerators are a positive multiple of the form
pub cleared_multiple : (form : List ℚ) → IsMultiple form (numerators (unit_of form))
cleared_multiple form =
    let us = unit_of form in
    let m = common_den us in
    record {
      factor = whole (pos m) /ℚ pivot form;
      positive = /ℚ-positive (whole (pos m)) (pivot form) (whole_positive m (common_den-positive us)) (positive_of_num (pivot form) (pivot_positive form));
      same = wholes_are m us (den-dvd-common_den us) ∙ regrouped (whole (pos m)) (pivot form) form;
    }

-- ---- no common divisor
reordered : (a s b : ℕ) → b * (a * s) ≡ a * (s * b)
reordered a s b = omega arith

grouped : (a m d : ℕ) → a * (m * d) ≡ (a * m) * d
grouped a m d = omega arith

-- a divisor of a numerator leaves the denominator a divisor of the rest
den_divides : (u : ℚ) (l d : ℕ) → 0 < d → u.den ∣ l → d ∣ l → d ∣ unsigned_abs u.num * (l / u.den) → u.den ∣ l / d
den_divides u l d p h k e =
    let a = unsigned_abs u.num in
    let s = l / u.den in
    let m = l / d in
    let whole_l : s * u.den ≡ l = div-mul_cancel u.den h in
    let whole_m : m * d ≡ l = div-mul_cancel d k in
    let same : u.den * (a * s) ≡ (a * m) * d = reordered a s u.den ∙ ap (λ n. a * n) (whole_l ∙ sym whole_m) ∙ grouped a m d in
    let big : u.den * d ∣ (a * m) * d = subst (λ n. u.den * d ∣ n) same (mul-dvd-mul_left d u.den e) in
    dvd_other u.den a m u.lowest.coprime (dvd_of_mul-dvd-mul_right u.den p big)

only_one : (d l m : ℕ) → 0 < l → m * d ≡ l → l ≤ m → 0 < d → d ≡ 1
only_one zero l m p e h q = absurd (omega arith)
only_one (suc zero) l m p e h q = refl
only_one (suc (suc d)) l m p e h q = absurd (too_many m d (omega (arith, e, h)) (omega (arith, p, h)))
  where
    too_many : (m d : ℕ) → m * suc (suc d) ≤ m → 0 < m → ⊥
    too_many m d h p = grind arith

entry_divided : (form : List ℚ) (d : ℕ) → All (λ n. d ∣ unsigned_abs n) (numerators (unit_of form)) → (i : ℕ) → i < length (unit_of form)
    → d ∣ unsigned_abs (entry_of (unit_of form) i).num * (common_den (unit_of form) / (entry_of (unit_of form) i).den)
entry_divided form d all i h =
    let us = unit_of form in
    let u = entry_of us i in
    subst (λ n. d ∣ n) (ap unsigned_abs (entry-numerators us i h) ∙ unsigned_abs-mul u.num (pos (common_den us / u.den)))
    (all i (pos 0) (rw (length-numerators us) h))

by_sign : (d n e l : ℕ) → n ≡ 1 → e ≡ 1 → d ∣ n * (l / e) → d ∣ l
by_sign d n e l f g h =
    let k : d ∣ 1 * (l / 1) = subst (λ t. d ∣ t * (l / 1)) f (subst (λ t. d ∣ n * (l / t)) g h) in
    let w : l / 1 ≡ l = div-one l in
    let one : 1 * (l / 1) ≡ l = omega arith in
    subst (λ t. d ∣ t) one k

-- nothing but 1 divides all of the numerators
pub no_divisor : (form : List ℚ) (i : ℕ) → i < length form → IsSign (entry_of (unit_of form) i) → HaveNoDivisor (numerators (unit_of form))
no_divisor form i h sign d all =
    let us = unit_of form in
    let l = common_den us in
    let below : i < length us = rw (length-unit_of form) h in
    let divides : d ∣ l = by_sign d (unsigned_abs (entry_of us i).num) (entry_of us i).den l sign.size sign.den (entry_divided form d all i below) in
    let some : 0 < d = pos_of_dvd_of_pos divides (common_den-positive us) in
    let rest : l ∣ l / d = common_den-least us (l / d) (λ j k. den_divides (entry_of us j) l d some (den-dvd-common_den us j k) divides (entry_divided form d all j k)) in
    let split : (l / d) * d ≡ l = div-mul_cancel d divides in
    only_one d l (l / d) (common_den-positive us) split (le_of_dvd (factor_positive (l / d) d l split (common_den-positive us)) rest) some

all_zero : (form : List ℚ) → ((i : ℕ) → i < length form → entry_of form i ≡ 0ℚ) → All (λ n. n ≡ pos 0) (numerators (unit_of form))
all_zero form none =
    let us = unit_of form in
    all_of (λ n. n ≡ pos 0) (numerators us) (pos 0) (λ i h.
    let below : i < length us = rw (← length-numerators us) h in
    let in_form : i < length form = rw (← length-unit_of form) below in
    let zero_unit : entry_of us i ≡ 0ℚ = entry-unit_of form i in_form ∙ ap (λ x. x /ℚ pivot form) (none i in_form) ∙ /ℚ-is 0ℚ (pivot form) ∙ zero-*ℚ (inverse_ℚ (pivot form)) in
    entry-numerators us i below ∙ ap (λ z. z *ℤ pos (common_den us / (entry_of us i).den)) (ap (λ q. q.num) zero_unit ∙ num-whole (pos 0)) ∙ nothing (common_den us / (entry_of us i).den))
  where
    nothing : (n : ℕ) → pos 0 *ℤ pos n ≡ pos 0
    nothing n = omega (arith, ints)

-- what the plain function computes is the cleared row
pub cleared_is : (form : List ℚ) → IsCleared form (cleared form)
unfolding cleared
cleared_is form = record {
  multiple = cleared_multiple form;
  lowest = ⊎_elim (λ none. inr (all_zero form none.0))
      (λ (some : (i : ℕ) × (i < length form) × (entry_of form i ≢ 0ℚ) × (pivot form ≡ size_ℚ (entry_of form i))). inl (no_divisor form some.0 some.1 (unit_sign form some.0 some.1 some.2 some.3)))
      (pivot_cases form);
}
