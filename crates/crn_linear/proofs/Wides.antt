-- Differences and quotients of fractions, in parts of 127 bits.
use Rattle.std.proofs.Common.{◌≡◌, ℕ, ◌*◌, ◌<◌, ◌≤◌, ◌^◌, [], ◌∷◌, Result, Ok, Err, refl, sym, ap, ap₂, ◌∙◌, subst, arith, to_z, of_z}
use Rattle.std.specs.Prelude.{ℤ, pos, neg_ℤ, ◌+ℤ◌, ◌-ℤ◌, ◌*ℤ◌, ◌<ℤ◌, unsigned_abs}
use Rattle.std.specs.Int.{w128}
use Rattle.std.specs.Result.{OkIff}
use Rattle.std.proofs.lemmas.Int.{ints}
use Rattle.crn_fraction.specs.Rational.{ℚ, IsLowest, ratio, whole, ◌+ℚ◌, ◌-ℚ◌, ◌/ℚ◌, neg_ℚ, inverse_ℚ}
use Rattle.crn_fraction.specs.Parts.{ratio_self, ratio_lowest}
use Rattle.crn_fraction.specs.Frac.{IsFrac}
use Rattle.crn_fraction.proofs.Integers.{ring_ℤ, z-writes}
use Rattle.crn_fraction.proofs.Ratios.{ratio-+ℚ}
use Rattle.crn_fraction.proofs.Products.{/ℚ-is}
use Rattle.crn_fraction.proofs.Values.{difference_of, turned_of_positive, quotient_positive}
use Rattle.crn_fraction.proofs.Lowest.{IsCoprime-swap, product_across, reduced_parts}
use Rattle.crn_linear.specs.Cleared.{IsWide, IsSmallFrac, wide_parts}

-- the parts that are read are the number's
pub wide_num : (n : ℤ) (d : ℕ) (q : ℚ) → ratio n d ≡ q → IsWide n d → to_z w128 (of_z w128 n) ≡ q.num
wide_num n d q e w =
    let fits : to_z w128 (of_z w128 n) ≡ n = omega (arith, ints, w.num_fits) in
    fits ∙ sym (wide_parts n d w).0 ∙ ap (λ r. r.num) e

-- the denominator too
pub wide_den : (n : ℤ) (d : ℕ) (q : ℚ) → ratio n d ≡ q → IsWide n d → d ≡ q.den
wide_den n d q e w = sym (wide_parts n d w).1 ∙ ap (λ r. r.den) e

-- the parts of a ratio may be kept
pub wide_of : (x : ℤ) (k : ℕ) (n : ℤ) (d : ℕ) → n ≡ (ratio x k).num → d ≡ (ratio x k).den → unsigned_abs n < 2 ^ 127 → d < 2 ^ 127 → IsWide n d
wide_of x k n d e f g h = record { lowest = (reduced_parts x k n d e f).0; num_fits = g; den_fits = h }

-- and so may the parts of a fraction
pub wide_self : (q : ℚ) (n : ℤ) (d : ℕ) → n ≡ q.num → d ≡ q.den → IsFrac q → IsWide n d
wide_self q n d e f h =
    let num : unsigned_abs n < 2 ^ 63 = rw e h.num_fits in
    let den : d < 2 ^ 63 = rw f h.den_fits in
    record { lowest = rw (e, f) q.lowest; num_fits = omega arith; den_fits = omega arith }

neg_parts : (b : ℚ) → neg_ℚ b ≡ ratio (neg_ℤ b.num) b.den
unfolding neg_ℚ
neg_parts b = refl

-- a difference by the cross products
pub minus_parts : (a b : ℚ) (n : ℤ) (d : ℕ) → n ≡ a.num *ℤ pos b.den -ℤ b.num *ℤ pos a.den → d ≡ a.den * b.den → ratio n d ≡ a -ℚ b
minus_parts a b n d e f =
    let written : a.num *ℤ pos b.den -ℤ b.num *ℤ pos a.den ≡ a.num *ℤ pos b.den +ℤ neg_ℤ b.num *ℤ pos a.den =
    ring_ℤ (a.num ∷ b.num ∷ pos a.den ∷ pos b.den ∷ []) {x = a.num *ℤ pos b.den +ℤ neg_ℤ (b.num *ℤ pos a.den)} (search z-writes depth 20) (search z-writes depth 20) refl in
    ap₂ ratio (e ∙ written) f
    ∙ sym (ratio-+ℚ a.num a.den (neg_ℤ b.num) b.den a.lowest.positive b.lowest.positive)
    ∙ ap (λ x. x +ℚ ratio (neg_ℤ b.num) b.den) (ratio_self a) ∙ difference_of a b (ratio (neg_ℤ b.num) b.den) (sym (neg_parts b))

-- ---- quotients
-- the parts of the inverse of a number above 0
inverse_parts : (p : ℚ) → pos 0 <ℤ p.num → ((inverse_ℚ p).num ≡ pos p.den) × ((inverse_ℚ p).den ≡ unsigned_abs p.num)
inverse_parts p h =
    let e = sym (turned_of_positive p (pos p.den) (unsigned_abs p.num) h refl refl) in
    let lowest : IsLowest (pos p.den) (unsigned_abs p.num) = record {
      positive = above p.num h;
      coprime = IsCoprime-swap (unsigned_abs p.num) p.den p.lowest.coprime;
    } in
    let f = e ∙ ratio_lowest (pos p.den) (unsigned_abs p.num) lowest in
    (ap (λ q. q.num) f, ap (λ q. q.den) f)
  where
    above : (n : ℤ) → pos 0 <ℤ n → 0 < unsigned_abs n
    above n l = omega (arith, ints)

-- what the code computes of a quotient is in lowest terms, and is the quotient
pub over_parts : (x p : ℚ) (n m : ℤ) (d e : ℕ) → pos 0 <ℤ p.num
    → n ≡ (ratio x.num (unsigned_abs p.num)).num → d ≡ (ratio x.num (unsigned_abs p.num)).den
    → m ≡ (ratio (pos p.den) x.den).num → e ≡ (ratio (pos p.den) x.den).den
    → IsLowest (n *ℤ m) (d * e) × (ratio (n *ℤ m) (d * e) ≡ x /ℚ p)
over_parts x p n m d e h hn hd hm he =
    let parts = inverse_parts p h in
    let both = product_across x (inverse_ℚ p) n m d e (n *ℤ m) (d * e)
    (hn ∙ ap (λ k. (ratio x.num k).num) (sym parts.1)) (hd ∙ ap (λ k. (ratio x.num k).den) (sym parts.1))
    (hm ∙ ap (λ k. (ratio k x.den).num) (sym parts.0)) (he ∙ ap (λ k. (ratio k x.den).den) (sym parts.0)) refl refl in
    (both.0, both.1 ∙ sym (/ℚ-is x p))

-- a ratio in lowest terms is small where its parts are
pub small_parts : (n : ℤ) (d : ℕ) (q : ℚ) → IsLowest n d → ratio n d ≡ q → IsSmallFrac q → (unsigned_abs n ≤ 2 ^ 59) × (d ≤ 2 ^ 59)
small_parts n d q l e s =
    let f = sym (ratio_lowest n d l) ∙ e in
    (subst (λ z. unsigned_abs z ≤ 2 ^ 59) (sym (ap (λ r. r.num) f)) s.num_small, subst (λ k. k ≤ 2 ^ 59) (sym (ap (λ r. r.den) f)) s.den_small)

-- and the other way round
pub parts_small : (n : ℤ) (d : ℕ) (q : ℚ) → IsLowest n d → ratio n d ≡ q → unsigned_abs n ≤ 2 ^ 59 → d ≤ 2 ^ 59 → IsSmallFrac q × IsFrac q
parts_small n d q l e h k =
    let f = sym (ratio_lowest n d l) ∙ e in
    let num : unsigned_abs q.num ≤ 2 ^ 59 = subst (λ z. unsigned_abs z ≤ 2 ^ 59) (ap (λ r. r.num) f) h in
    let den : q.den ≤ 2 ^ 59 = subst (λ z. z ≤ 2 ^ 59) (ap (λ r. r.den) f) k in
    (record { num_small = num; den_small = den }, record { num_fits = omega arith; den_fits = omega arith })

-- an answer whose two conditions both hold
pub same_answer : {A E P Q : Type 0} (r : Result A E) (v w : A) → P → Q → v ≡ w → OkIff r P v → OkIff r Q w
same_answer (Ok x) v w p q e h = (q, h.1 ∙ e)
same_answer (Err x) v w p q e h = absurd (h p)

-- the quotient of two whole numbers that are those parts
pub whole_quotient : (n : ℤ) (d : ℕ) (a b : ℤ) (q : ℚ) → IsLowest n d → ratio n d ≡ q → a ≡ n → b ≡ pos d → whole a /ℚ whole b ≡ q
whole_quotient n d a b q l e f g =
    sym (quotient_positive a b n d (omega (arith, ints, l.positive, g)) (sym f) (sym g)) ∙ e

-- no number is above and at most 2 ^ 59
pub lt_irrefl_at : (n : ℕ) → 2 ^ 59 < n → n ≤ 2 ^ 59 → ⊥
lt_irrefl_at n h k = omega arith
