-- Quotients of whole numbers whose lowest terms are at most 2^59 in size.
use Rattle.std.proofs.Common.{◌≡◌, ℕ, ◌/◌, ◌<◌, ◌≤◌, ◌^◌, true, false, ◌&&◌, Result, Ok, Err, Option, sym, ap, ap₂, ◌∙◌, subst, arith}
use Rattle.std.specs.Prelude.{ℤ, pos, unsigned_abs, int_div, MatchOption}
use Rattle.std.specs.Result.{OkIff, result_ok}
use Rattle.std.proofs.lemmas.Bool.{and_right, and_left, le-leb}
use Rattle.crn_fraction.specs.Gcd.{gcd}
use Rattle.crn_fraction.specs.Frac.{IsFrac}
use Rattle.crn_fraction.specs.Rational.{ℚ, ratio, whole, ◌/ℚ◌}
use Rattle.crn_fraction.proofs.Core.{num-ratio, den-ratio}
use Rattle.crn_fraction.proofs.Lowest.{reduced_parts}
use Rattle.crn_linear.specs.Rows.{IsSmall}
use Rattle.crn_linear.proofs.Wides.{parts_small, whole_quotient}
use Rattle.crn_feasible.specs.Elimination.{fits, fits_ℚ}

-- a numerator that is too big
pub num_passes : (n : ℤ) (d : ℕ) → 0 < d → fits (int_div n (pos (gcd (unsigned_abs n) d))) ≡ false → fits_ℚ (ratio n d) ≡ false
num_passes n d p h = and_left (fits (ratio n d).num) (fits (pos (ratio n d).den)) (ap fits (num-ratio n d p) ∙ h)

-- a denominator that is
pub den_passes : (n : ℤ) (d : ℕ) → 0 < d → fits (int_div (pos d) (pos (gcd (unsigned_abs n) d))) ≡ false → fits_ℚ (ratio n d) ≡ false
den_passes n d p h = and_right (fits (ratio n d).num) (fits (pos (ratio n d).den)) (ap (λ k. fits (pos k)) (den-ratio n d p) ∙ h)

pub fits_small : (z : ℤ) → unsigned_abs z ≤ 2 ^ 59 → fits z ≡ true
fits_small z h = le-leb (unsigned_abs z) (2 ^ 59) h

-- small lowest terms
pub fits_parts : (q : ℚ) → unsigned_abs q.num ≤ 2 ^ 59 → q.den ≤ 2 ^ 59 → fits_ℚ q ≡ true
fits_parts q h k = ap₂ (λ s t. s && t) (fits_small q.num h) (fits_small (pos q.den) k)

-- what the code makes of them
pub parts_fit : (n : ℤ) (d : ℕ) (a b : ℤ) → 0 < d → a ≡ int_div n (pos (gcd (unsigned_abs n) d)) → b ≡ int_div (pos d) (pos (gcd (unsigned_abs n) d)) → IsSmall a → IsSmall b
    → (whole a /ℚ whole b ≡ ratio n d) × IsFrac (whole a /ℚ whole b) × (fits_ℚ (ratio n d) ≡ true)
parts_fit n d a b p e f sa sb =
    let g = gcd (unsigned_abs n) d in
    let low = reduced_parts n d (int_div n (pos g)) (d / g) (sym (num-ratio n d p)) (sym (den-ratio n d p)) in
    let is = whole_quotient (int_div n (pos g)) (d / g) a b (ratio n d) low.0 low.1 e f in
    let num : unsigned_abs (int_div n (pos g)) ≤ 2 ^ 59 = subst (λ z. unsigned_abs z ≤ 2 ^ 59) e sa.size in
    let den : d / g ≤ 2 ^ 59 = subst (λ z. unsigned_abs z ≤ 2 ^ 59) f sb.size in
    let small = parts_small (int_div n (pos g)) (d / g) (ratio n d) low.0 low.1 num den in
    (is, subst IsFrac (sym is) small.1, fits_parts (ratio n d) small.0.num_small small.0.den_small)

pub above_zero : (n : ℤ) (d : ℕ) → 0 < d → int_div (pos d) (pos (gcd (unsigned_abs n) d)) ≡ pos 0 → ⊥
above_zero n d p e =
    let q = ratio n d in
    let some : 0 < q.den = q.lowest.positive in
    let is : q.den ≡ d / gcd (unsigned_abs n) d = den-ratio n d p in
    let none : d / gcd (unsigned_abs n) d ≡ 0 = ap unsigned_abs e in
    omega (arith, some, is, none)

-- the answer of the last call, which always fits
pub answered : {E : Type 0} (r : Result ℚ E) (o : Option ℚ) (v q : ℚ) → OkIff r (IsFrac v) v → o ≡ result_ok r → IsFrac v → v ≡ q → fits_ℚ q ≡ true
    → MatchOption o (fits_ℚ q ≡ false) (λ x. (x ≡ q) × (fits_ℚ q ≡ true))
answered (Ok x) o v q h e f s t = subst (λ (p : Option ℚ). MatchOption p (fits_ℚ q ≡ false) (λ y. (y ≡ q) × (fits_ℚ q ≡ true))) (sym e) (h.1 ∙ s, t)
answered (Err x) o v q h e f s t = absurd (h f)
