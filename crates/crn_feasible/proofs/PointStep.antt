-- One more coordinate over a common denominator: how its bounds and itself are written, and that their numbers fit.
use Rattle.std.proofs.Common.{◌≡◌, ℕ, zero, suc, ◌+◌, ◌*◌, ◌/◌, ◌<◌, ◌≤◌, ◌^◌, true, List, [], ◌∷◌, refl, sym, ap, ap₂, ◌∙◌, subst, arith}
use Rattle.std.specs.Prelude.{ℤ, pos, negsuc, neg_ℤ, ◌+ℤ◌, ◌*ℤ◌, unsigned_abs}
use Rattle.std.specs.List.{list_all}
use Rattle.std.specs.Int.{◌∣◌}
use Rattle.std.proofs.Math.Nat.{div-mul_cancel, eq_of_mul-eq-mul_right, mul-div-le}
use Rattle.std.proofs.lemmas.Nat.{le-div, mul-le}
use Rattle.std.proofs.lemmas.Int.{ints, unsigned_abs-mul}
use Rattle.crn_fraction.proofs.Wholes.{num-whole, den-whole}
use Rattle.crn_fraction.specs.Rational.{ℚ, ratio, whole, neg_ℚ, inverse_ℚ, turned, ◌+ℚ◌, ◌*ℚ◌, ◌/ℚ◌}
use Rattle.crn_fraction.proofs.Core.{ratio_cross, ratio_same}
use Rattle.crn_fraction.proofs.Integers.{ring_ℤ, z-writes}
use Rattle.crn_fraction.proofs.Ratios.{ratio-*ℚ, over-+ℚ, times_pos, neg_ℚ-ratio}
use Rattle.crn_fraction.proofs.Products.{/ℚ-is}
use Rattle.crn_fraction.proofs.Lowest.{den-divides, num-shrinks, den-shrinks}
use Rattle.crn_feasible.specs.Elimination.{fits, fits_ℚ, numerators_over}
use Rattle.crn_linear.specs.Cleared.{common_den}
use Rattle.crn_feasible.proofs.Orders.{Each}
use Rattle.crn_feasible.proofs.PointSizes.{IsOver, common_den_most}
use Rattle.crn_feasible.proofs.SmallRatios.{fits_small}
use Rattle.crn_feasible.proofs.Bounds.{times_le, abs_sum}

-- ---- the tests

pub fits_over : (d n : ℕ) (q : ℚ) → 0 < d → d ≤ 2 ^ 59 → n ≤ 2 ^ 59 → IsOver d n q → fits_ℚ q ≡ true
fits_over d n q p hd hn o =
    let a : unsigned_abs q.num ≤ 2 ^ 59 = let l = num-shrinks o.top d p in let e = ap (λ (t : ℚ). unsigned_abs t.num) o.is in omega (arith, l, e, o.size) in
    let b : q.den ≤ 2 ^ 59 = let l = den-shrinks o.top d p in let e = ap (λ (t : ℚ). t.den) o.is in omega (arith, l, e) in
    rw (fits_small q.num a) (fits_small (pos q.den) b)

parts : (d e big : ℕ) → d ≤ big → (d / e) * e ≤ big
parts d e big h = let l = mul-div-le d e in omega (arith, l)

numerator_most : (d big n : ℕ) (q : ℚ) → 0 < big → IsOver big n q → q.den ∣ big → d ≤ big → unsigned_abs (q.num *ℤ pos (d / q.den)) ≤ n
numerator_most d big n q p o h l =
    let k = big / q.den in
    let cross : q.num *ℤ pos big ≡ o.top *ℤ pos q.den = rw o.is (ratio_cross o.top big p) in
    let sizes : unsigned_abs q.num * big ≡ unsigned_abs o.top * q.den =
    sym (unsigned_abs-mul q.num (pos big)) ∙ ap unsigned_abs cross ∙ unsigned_abs-mul o.top (pos q.den) in
    let whole_part : k * q.den ≡ big = div-mul_cancel q.den h in
    let same : (unsigned_abs q.num * k) * q.den ≡ unsigned_abs o.top * q.den =
    regroup (unsigned_abs q.num) k q.den ∙ ap (λ t. unsigned_abs q.num * t) whole_part ∙ sizes in
    let top : unsigned_abs q.num * k ≡ unsigned_abs o.top = eq_of_mul-eq-mul_right q.den q.lowest.positive (unsigned_abs q.num * k) (unsigned_abs o.top) same in
    let small : d / q.den ≤ k = le-div (d / q.den) big q.den q.lowest.positive (parts d q.den big l) in
    let bound = times_le (unsigned_abs q.num) (d / q.den) k small in
    omega (arith, bound, top, o.size, unsigned_abs-mul q.num (pos (d / q.den)))
  where
    regroup : (a k d : ℕ) → (a * k) * d ≡ a * (k * d)
    regroup a k d = omega arith

numerators_fit : (d big n : ℕ) (qs : List ℚ) → 0 < big → n ≤ 2 ^ 59 → d ≤ big → Each (IsOver big n) qs → list_all fits (numerators_over d qs) ≡ true
numerators_fit d big n [] p h l o = refl
numerators_fit d big n (q ∷ qs) p h l o =
    let div : q.den ∣ big = subst (λ (t : ℚ). t.den ∣ big) (sym o.0.is) (den-divides o.0.top big p) in
    let m = numerator_most d big n q p o.0 div l in
    rw (fits_small (q.num *ℤ pos (d / q.den)) (omega (arith, m))) (numerators_fit d big n qs p h l o.1)

-- coordinates over a small denominator, with small numerators, pass no limit
pub all_fit_over : (big n : ℕ) (qs : List ℚ) → 0 < big → big ≤ 2 ^ 59 → n ≤ 2 ^ 59 → Each (IsOver big n) qs
    → list_all fits (pos (common_den qs) ∷ numerators_over (common_den qs) qs) ≡ true
all_fit_over big n qs p h k o =
    let l = common_den_most big n qs p o in
    rw (fits_small (pos (common_den qs)) (omega (arith, l))) (numerators_fit (common_den qs) big n qs p k l o)

-- ---- quotients by whole numbers
turned_low : (n : ℕ) → inverse_ℚ (whole (pos (suc n))) ≡ ratio (pos 1) (suc n)
unfolding inverse_ℚ
turned_low n = ap₂ turned (num-whole (pos (suc n))) (den-whole (pos (suc n)))

turned_high : (n : ℕ) → inverse_ℚ (whole (negsuc n)) ≡ ratio (negsuc 0) (suc n)
unfolding inverse_ℚ
turned_high n = ap₂ turned (num-whole (negsuc n)) (den-whole (negsuc n))

pub ratio-/-low : (x : ℤ) (d n : ℕ) → 0 < d → ratio x d /ℚ whole (pos (suc n)) ≡ ratio x (d * suc n)
ratio-/-low x d n p =
    /ℚ-is (ratio x d) (whole (pos (suc n))) ∙ ap (λ t. ratio x d *ℚ t) (turned_low n) ∙ ratio-*ℚ x d (pos 1) (suc n) p (omega arith)
    ∙ ap (λ t. ratio t (d * suc n)) (let e : x *ℤ pos 1 ≡ x = omega (arith, ints) in e)

pub ratio-/-high : (x : ℤ) (d n : ℕ) → 0 < d → ratio x d /ℚ whole (negsuc n) ≡ ratio (neg_ℤ x) (d * suc n)
ratio-/-high x d n p =
    /ℚ-is (ratio x d) (whole (negsuc n)) ∙ ap (λ t. ratio x d *ℚ t) (turned_high n) ∙ ratio-*ℚ x d (negsuc 0) (suc n) p (omega arith)
    ∙ ap (λ t. ratio t (d * suc n)) (let e : x *ℤ negsuc 0 ≡ neg_ℤ x = omega (arith, ints) in e)

-- a ratio over a larger denominator
pub ratio-spread : (x : ℤ) (d f : ℕ) → 0 < d → 0 < f → ratio x d ≡ ratio (x *ℤ pos f) (d * f)
ratio-spread x d f p q =
    ratio_same x (x *ℤ pos f) d (d * f) p (times_pos d f p q)
    (ring_ℤ (x ∷ pos d ∷ pos f ∷ []) {x = x *ℤ (pos d *ℤ pos f)} {y = (x *ℤ pos f) *ℤ pos d} (search z-writes depth 20) (search z-writes depth 20) refl)

-- the middle of two bounds
pub middle-is : (s t : ℤ) (d e f : ℕ) → 0 < d → 0 < e → 0 < f
    → (ratio s (d * e) +ℚ ratio t (d * f)) /ℚ whole (pos 2) ≡ ratio (s *ℤ pos f +ℤ t *ℤ pos e) ((d * e * f) * 2)
middle-is s t d e f p q r =
    let de = times_pos d e p q in
    let df = times_pos d f p r in
    let all = times_pos (d * e) f de r in
    let left : ratio s (d * e) ≡ ratio (s *ℤ pos f) (d * e * f) = ratio-spread s (d * e) f de r in
    let right : ratio t (d * f) ≡ ratio (t *ℤ pos e) (d * e * f) = ratio-spread t (d * f) e df q ∙ ap (ratio (t *ℤ pos e)) (let m : d * f * e ≡ d * e * f = omega arith in m) in
    ap (λ u. u /ℚ whole (pos 2)) (ap₂ (λ u w. u +ℚ w) left right ∙ over-+ℚ (s *ℤ pos f) (d * e * f) (t *ℤ pos e) all)
    ∙ ratio-/-low (s *ℤ pos f +ℤ t *ℤ pos e) (d * e * f) 1 all

-- ---- bounds
-- a bound: over d times an entry of size at most e
pub record IsBound (d s e : ℕ) (q : ℚ) : Type 0 where
  pub top : ℤ
  pub part : ℕ
  pub positive : 0 < part
  pub most : part ≤ e
  pub is : q ≡ ratio top (d * part)
  pub size : unsigned_abs top ≤ s

pub bound_form : (z : ℤ) (y : ℚ) (d s e : ℕ) → 0 < d → (z ≡ pos 0 → ⊥) → unsigned_abs z ≤ e → IsOver d s y → IsBound d s e (neg_ℚ y /ℚ whole z)
bound_form (pos zero) y d s e p h l o = absurd (h refl)
bound_form (pos (suc n)) y d s e p h l o = record {
  top = neg_ℤ o.top;
  part = suc n;
  positive = omega arith;
  most = l;
  is = ap (λ t. neg_ℚ t /ℚ whole (pos (suc n))) o.is ∙ ap (λ t. t /ℚ whole (pos (suc n))) (neg_ℚ-ratio o.top d p) ∙ ratio-/-low (neg_ℤ o.top) d n p;
  size = same o.top s o.size;
}
  where
    same : (t : ℤ) (s : ℕ) → unsigned_abs t ≤ s → unsigned_abs (neg_ℤ t) ≤ s
    same t s h = omega (arith, ints)
bound_form (negsuc n) y d s e p h l o = record {
  top = neg_ℤ (neg_ℤ o.top);
  part = suc n;
  positive = omega arith;
  most = l;
  is = ap (λ t. neg_ℚ t /ℚ whole (negsuc n)) o.is ∙ ap (λ t. t /ℚ whole (negsuc n)) (neg_ℚ-ratio o.top d p) ∙ ratio-/-high (neg_ℤ o.top) d n p;
  size = same o.top s o.size;
}
  where
    same : (t : ℤ) (s : ℕ) → unsigned_abs t ≤ s → unsigned_abs (neg_ℤ (neg_ℤ t)) ≤ s
    same t s h = omega (arith, ints)

-- the middle of two bounds: over 2·d·e·f, with a numerator of at most 2·s·e
pub middle_over : (d s e : ℕ) (l u : ℚ) → 0 < d → (a : IsBound d s e l) → (b : IsBound d s e u) → IsOver ((d * a.part * b.part) * 2) (s * e + s * e) ((l +ℚ u) /ℚ whole (pos 2))
middle_over d s e l u p a b = record {
  top = a.top *ℤ pos b.part +ℤ b.top *ℤ pos a.part;
  is = ap₂ (λ x y. (x +ℚ y) /ℚ whole (pos 2)) a.is b.is ∙ middle-is a.top b.top d a.part b.part p a.positive b.positive;
  size = sizes a.top b.top a.part b.part s e a.size b.size a.most b.most;
}
  where
    sizes : (x y : ℤ) (m n s e : ℕ) → unsigned_abs x ≤ s → unsigned_abs y ≤ s → m ≤ e → n ≤ e → unsigned_abs (x *ℤ pos n +ℤ y *ℤ pos m) ≤ s * e + s * e
    sizes x y m n s e hx hy hm hn =
        let g = abs_sum (x *ℤ pos n) (y *ℤ pos m) in
        let i = mul-le (unsigned_abs x) n s e hx hn in
        let j = mul-le (unsigned_abs y) m s e hy hm in
        omega (arith, g, i, j, unsigned_abs-mul x (pos n), unsigned_abs-mul y (pos m))
