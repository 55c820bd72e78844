-- The greatest and the least of bounds, bound by bound, and the value between them over one denominator.
use Rattle.std.proofs.Common.{◌≡◌, ⊎_elim, ℕ, zero, suc, ◌*◌, ◌<◌, ◌≤◌, ◌^◌, true, false, cond, List, [], ◌∷◌, length, get_or, drop, refl, sym, ap, ap₂, ◌∙◌, arith, Ordering, Less, Equal, Greater}
use Rattle.std.proofs.lemmas.Bool.{and_parts}
use Rattle.std.specs.Prelude.{ℤ, pos, ◌+ℤ◌, ◌-ℤ◌, ◌*ℤ◌, ◌<ℤ◌, int_lt, unsigned_abs, nat_le}
use Rattle.std.specs.List.{fold, list_all}
use Rattle.std.specs.Ordering.{MatchOrdering, int_cmp}
use Rattle.std.specs.Cmp.{int_ranks}
use Rattle.std.proofs.lemmas.Int.{ints}
use Rattle.std.proofs.lemmas.Bool.Decides.{nat_tests}
use Rattle.crn_fraction.specs.Rational.{ℚ, ratio, whole, ◌+ℚ◌, ◌-ℚ◌, ◌/ℚ◌, max_ℚ, min_ℚ, cmp_ℚ}
use Rattle.crn_fraction.specs.Parts.{ratio_self}
use Rattle.crn_fraction.proofs.Order.{max_ℚ_cases, min_ℚ_cases}
use Rattle.crn_fraction.proofs.Ratios.{over-+ℚ, over--ℚ, over-whole}
use Rattle.crn_feasible.specs.Elimination.{fits, fits_ℚ, between}
use Rattle.crn_feasible.specs.Chosen.{greatest_of, least_of}
use Rattle.crn_feasible.proofs.PointStep.{middle-is}

-- ---- the greater of two, by their order
by_rank : (x y : ℤ) (r : Ordering) → MatchOrdering r (x <ℤ y) (x ≡ y) (y <ℤ x) → (r ≡ Greater → int_lt y x ≡ true) × ((r ≡ Greater → ⊥) → int_lt y x ≡ false)
by_rank x y Less m = (λ e. cc, λ n. let t : false ≡ int_lt y x = omega (arith, ints) in sym t)
by_rank x y Equal m = (λ e. cc, λ n. let t : false ≡ int_lt y x = omega (arith, ints) in sym t)
by_rank x y Greater m = (λ e. let t : true ≡ int_lt y x = omega (arith, ints) in sym t, λ n. absurd (n refl))

pub greater_first : (a b : ℚ) → cmp_ℚ a b ≡ Greater → a ≡ max_ℚ a b
unfolding cmp_ℚ max_ℚ
greater_first a b e =
    let x = a.num *ℤ pos b.den in
    let y = b.num *ℤ pos a.den in
    ap (λ t. cond t a b) (sym ((by_rank x y (int_cmp x y) (int_ranks x y)).0 e))

pub greater_second : (a b : ℚ) → (cmp_ℚ a b ≡ Greater → ⊥) → b ≡ max_ℚ a b
unfolding cmp_ℚ max_ℚ
greater_second a b n =
    let x = a.num *ℤ pos b.den in
    let y = b.num *ℤ pos a.den in
    ap (λ t. cond t a b) (sym ((by_rank x y (int_cmp x y) (int_ranks x y)).1 n))

-- ---- small ones
pub fits-max : (a b : ℚ) → fits_ℚ a ≡ true → fits_ℚ b ≡ true → fits_ℚ (max_ℚ a b) ≡ true
fits-max a b h k = ⊎_elim (λ e. ap fits_ℚ e ∙ h) (λ e. ap fits_ℚ e ∙ k) (max_ℚ_cases a b)

pub fits-min : (a b : ℚ) → fits_ℚ a ≡ true → fits_ℚ b ≡ true → fits_ℚ (min_ℚ a b) ≡ true
fits-min a b h k = ⊎_elim (λ e. ap fits_ℚ e ∙ h) (λ e. ap fits_ℚ e ∙ k) (min_ℚ_cases a b)

pub fits_at : (qs : List ℚ) (i : ℕ) (d : ℚ) → list_all fits_ℚ qs ≡ true → i < length qs → fits_ℚ (get_or qs i d) ≡ true
fits_at [] i d h l = absurd (omega arith)
fits_at (q ∷ qs) zero d h l = (and_parts (fits_ℚ q) (list_all fits_ℚ qs) h).0
fits_at (q ∷ qs) (suc i) d h l = fits_at qs i d (and_parts (fits_ℚ q) (list_all fits_ℚ qs) h).1 (omega arith)

pub fits_rest : (qs : List ℚ) → list_all fits_ℚ qs ≡ true → list_all fits_ℚ (drop 1 qs) ≡ true
fits_rest [] h = refl
fits_rest (q ∷ qs) h = (and_parts (fits_ℚ q) (list_all fits_ℚ qs) h).1

-- ---- all of them

pub least_is : (qs : List ℚ) (d : ℚ) → 0 < length qs → fold min_ℚ (get_or qs 0 d) (drop 1 qs) ≡ least_of qs
least_is [] d h = absurd (omega arith)
least_is (q ∷ qs) d h = refl

pub between-none : (ls us : List ℚ) → length ls ≡ 0 → length us ≡ 0 → between ls us ≡ whole (pos 0)
between-none [] [] h k = refl
between-none [] (u ∷ us) h k = absurd (omega (arith, k))
between-none (l ∷ ls) us h k = absurd (omega (arith, h))

pub between-lows : (ls us : List ℚ) → 0 < length ls → length us ≡ 0 → between ls us ≡ greatest_of ls +ℚ whole (pos 1)
between-lows [] us h k = absurd (omega arith)
between-lows (l ∷ ls) [] h k = refl
between-lows (l ∷ ls) (u ∷ us) h k = absurd (omega (arith, k))

pub between-highs : (ls us : List ℚ) → length ls ≡ 0 → 0 < length us → between ls us ≡ least_of us -ℚ whole (pos 1)
between-highs [] [] h k = absurd (omega arith)
between-highs [] (u ∷ us) h k = refl
between-highs (l ∷ ls) us h k = absurd (omega (arith, h))

pub between-both : (ls us : List ℚ) → 0 < length ls → 0 < length us → between ls us ≡ (greatest_of ls +ℚ least_of us) /ℚ whole (pos 2)
between-both [] us h k = absurd (omega arith)
between-both (l ∷ ls) [] h k = absurd (omega arith)
between-both (l ∷ ls) (u ∷ us) h k = refl

-- ---- over one denominator
pub above_is : (q : ℚ) → q +ℚ whole (pos 1) ≡ ratio (q.num +ℤ pos q.den) q.den
above_is q =
    let one : pos 1 *ℤ pos q.den ≡ pos q.den = omega (arith, ints) in
    ap₂ (λ a b. a +ℚ b) (sym (ratio_self q)) (over-whole (pos 1) q.den q.lowest.positive ∙ ap (λ t. ratio t q.den) one) ∙ over-+ℚ q.num q.den (pos q.den) q.lowest.positive

pub below_is : (q : ℚ) → q -ℚ whole (pos 1) ≡ ratio (q.num -ℤ pos q.den) q.den
below_is q =
    let one : pos 1 *ℤ pos q.den ≡ pos q.den = omega (arith, ints) in
    ap₂ (λ a b. a -ℚ b) (sym (ratio_self q)) (over-whole (pos 1) q.den q.lowest.positive ∙ ap (λ t. ratio t q.den) one) ∙ over--ℚ q.num q.den (pos q.den) q.lowest.positive

pub middle_is : (a b : ℚ) → (a +ℚ b) /ℚ whole (pos 2) ≡ ratio (a.num *ℤ pos b.den +ℤ b.num *ℤ pos a.den) (2 * (a.den * b.den))
middle_is a b =
    let left : ratio a.num (1 * a.den) ≡ a = ap (ratio a.num) (let e : 1 * a.den ≡ a.den = omega arith in e) ∙ ratio_self a in
    let right : ratio b.num (1 * b.den) ≡ b = ap (ratio b.num) (let e : 1 * b.den ≡ b.den = omega arith in e) ∙ ratio_self b in
    let shape : (1 * a.den * b.den) * 2 ≡ 2 * (a.den * b.den) = omega arith in
    ap₂ (λ x y. (x +ℚ y) /ℚ whole (pos 2)) (sym left) (sym right)
    ∙ middle-is a.num b.num 1 a.den b.den (omega arith) a.lowest.positive b.lowest.positive
    ∙ ap (ratio (a.num *ℤ pos b.den +ℤ b.num *ℤ pos a.den)) shape

-- ---- what fits
at_most : (n : ℕ) → nat_le n (2 ^ 59) ≡ true → n ≤ 2 ^ 59
at_most n h = grind (arith, nat_tests)

pub num_fits : (q : ℚ) → fits_ℚ q ≡ true → unsigned_abs q.num ≤ 2 ^ 59
num_fits q h = at_most (unsigned_abs q.num) (and_parts (fits q.num) (fits (pos q.den)) h).0

pub den_fits : (q : ℚ) → fits_ℚ q ≡ true → q.den ≤ 2 ^ 59
den_fits q h = at_most q.den (and_parts (fits q.num) (fits (pos q.den)) h).1
