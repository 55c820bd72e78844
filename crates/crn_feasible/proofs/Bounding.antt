-- What a row asks of the next value, over the least common denominator of the values before it.
use Rattle.std.proofs.Common.{◌≡◌, ℕ, zero, suc, ◌*◌, ◌/◌, ◌<◌, List, [], ◌∷◌, length, sym, ap, ap₂, ◌∙◌, subst, arith}
use Rattle.std.specs.Prelude.{ℤ, pos, negsuc, neg_ℤ, ◌*ℤ◌, ◌<ℤ◌, ◌≤ℤ◌, unsigned_abs}
use Rattle.std.specs.Int.{◌∣◌}
use Rattle.std.proofs.lemmas.Int.{ints}
use Rattle.std.proofs.Math.Nat.{div-mul_cancel}
use Rattle.crn_fraction.specs.Rational.{ℚ, ratio, whole, neg_ℚ, ◌+ℚ◌, ◌*ℚ◌, ◌/ℚ◌}
use Rattle.crn_fraction.specs.Parts.{ratio_self}
use Rattle.crn_fraction.proofs.Ratios.{over-+ℚ, over-whole-*ℚ, neg_ℚ-ratio, zero_over}
use Rattle.crn_fraction.specs.Gcd.{factor_positive}
use Rattle.crn_linear.specs.Forms.{entry_of}
use Rattle.crn_linear.specs.Rows.{dot, value}
use Rattle.crn_linear.specs.Cleared.{common_den, numerator_over}
use Rattle.crn_linear.proofs.Denominators.{den-dvd-common_den, common_den-positive}
use Rattle.crn_feasible.specs.Elimination.{numerators_over}
use Rattle.crn_feasible.proofs.PointStep.{ratio-spread, ratio-/-low, ratio-/-high}

-- a number over a multiple of its denominator
q_over : (d : ℕ) (q : ℚ) → 0 < d → q.den ∣ d → q ≡ ratio (numerator_over d q) d
q_over d q p h =
    let f = d / q.den in
    let back : f * q.den ≡ d = div-mul_cancel q.den h in
    let same : q.den * f ≡ d = (let e : q.den * f ≡ f * q.den = omega arith in e) ∙ back in
    let some : 0 < f = factor_positive f q.den d back p in
    sym (ratio_self q) ∙ ratio-spread q.num q.den f q.lowest.positive some ∙ ap (ratio (numerator_over d q)) same

value_over : (r : List ℤ) (qs : List ℚ) (d : ℕ) → 0 < d → ((i : ℕ) → i < length qs → (entry_of qs i).den ∣ d) → value r qs ≡ ratio (dot r (numerators_over d qs)) d
value_over [] qs d p h = zero_over d p
value_over (a ∷ r) [] d p h = zero_over d p
value_over (a ∷ r) (q ∷ qs) d p h =
    ap₂ (λ s t. whole a *ℚ s +ℚ t) (q_over d q p (h 0 (omega arith))) (value_over r qs d p (λ i l. h (suc i) (omega arith)))
    ∙ ap (λ s. s +ℚ ratio (dot r (numerators_over d qs)) d) (over-whole-*ℚ a (numerator_over d q) d p)
    ∙ over-+ℚ (a *ℤ numerator_over d q) d (dot r (numerators_over d qs)) p

-- the value of a row, by the sum that the code computes
pub value_is : (r tops : List ℤ) (qs : List ℚ) (d : ℕ) → d ≡ common_den qs → tops ≡ numerators_over d qs → value r qs ≡ ratio (dot r tops) d
value_is r tops qs d e f =
    value_over r qs d (subst (λ n. 0 < n) (sym e) (common_den-positive qs)) (λ i l. subst (λ n. (entry_of qs i).den ∣ n) (sym e) (den-dvd-common_den qs i l))
    ∙ ap (λ ts. ratio (dot r ts) d) (sym f)

neg_neg : (s : ℤ) → neg_ℤ (neg_ℤ s) ≡ s
neg_neg s = omega (arith, ints)

-- a bound, by an entry above 0
pub low_is : (z s : ℤ) (y : ℚ) (d : ℕ) → 0 < d → pos 0 <ℤ z → y ≡ ratio s d → ratio (neg_ℤ s) (d * unsigned_abs z) ≡ neg_ℚ y /ℚ whole z
low_is (pos zero) s y d p h e = absurd (omega (arith, ints))
low_is (pos (suc n)) s y d p h e = sym (ap (λ t. neg_ℚ t /ℚ whole (pos (suc n))) e ∙ ap (λ t. t /ℚ whole (pos (suc n))) (neg_ℚ-ratio s d p) ∙ ratio-/-low (neg_ℤ s) d n p)
low_is (negsuc n) s y d p h e = absurd (omega (arith, ints))

-- and by one below 0
pub high_is : (z s : ℤ) (y : ℚ) (d : ℕ) → 0 < d → z <ℤ pos 0 → y ≡ ratio s d → ratio s (d * unsigned_abs z) ≡ neg_ℚ y /ℚ whole z
high_is (pos n) s y d p h e = absurd (omega (arith, ints))
high_is (negsuc n) s y d p h e =
    sym
    (ap (λ t. neg_ℚ t /ℚ whole (negsuc n)) e ∙ ap (λ t. t /ℚ whole (negsuc n)) (neg_ℚ-ratio s d p) ∙ ratio-/-high (neg_ℤ s) d n p
    ∙ ap (λ t. ratio t (d * suc n)) (neg_neg s))

pub size_positive : (z : ℤ) → (z ≡ pos 0 → ⊥) → 0 < unsigned_abs z
size_positive z h = omega (arith, ints)

pub not_above : (z : ℤ) → (z ≡ pos 0 → ⊥) → z ≤ℤ pos 0 → z <ℤ pos 0
not_above z h l = omega (arith, ints)
