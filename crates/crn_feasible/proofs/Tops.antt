-- The values over a common denominator, value by value.
use Rattle.std.proofs.Common.{◌≡◌, ℕ, zero, suc, ◌+◌, ◌<◌, ◌≤◌, List, [], ◌∷◌, ◌++◌, length, get_or, take, refl, sym, ap, ap₂, ◌∙◌, arith, true, false, ◌&&◌}
use Rattle.std.specs.Prelude.{ℤ, pos, ◌^◌}
use Rattle.crn_feasible.proofs.SmallRatios.{fits_small}
use Rattle.crn_feasible.proofs.Lists.{all_fit}
use Rattle.std.specs.List.{list_all}
use Rattle.std.proofs.lemmas.List.{take_more}
use Rattle.crn_fraction.specs.Rational.{ℚ}
use Rattle.crn_linear.specs.Rows.{AreSmall}
use Rattle.crn_linear.specs.Cleared.{numerator_over}
use Rattle.crn_feasible.specs.Elimination.{fits, numerators_over}
use Rattle.crn_feasible.proofs.Quotients.{false_at}

pub length-tops : (d : ℕ) (qs : List ℚ) → length (numerators_over d qs) ≡ length qs
length-tops d [] = refl
length-tops d (q ∷ qs) = ap suc (length-tops d qs)

get_or-tops : (d : ℕ) (qs : List ℚ) (i : ℕ) (q : ℚ) → i < length qs → q ≡ get_or qs i q → get_or (numerators_over d qs) i (pos 0) ≡ numerator_over d q
get_or-tops d [] i q l e = absurd (omega arith)
get_or-tops d (x ∷ qs) zero q l e = ap (numerator_over d) (sym e)
get_or-tops d (x ∷ qs) (suc i) q l e = get_or-tops d qs i q (omega arith) e

-- one more
pub tops_more : (d : ℕ) (qs : List ℚ) (i : ℕ) (q : ℚ) (tops : List ℤ) (top : ℤ) → i < length qs → q ≡ get_or qs i q → top ≡ numerator_over d q → tops ≡ take i (numerators_over d qs)
    → tops ++ top ∷ [] ≡ take (i + 1) (numerators_over d qs)
tops_more d qs i q tops top l e f h =
    ap₂ (λ ts t. ts ++ t ∷ []) h (f ∙ sym (get_or-tops d qs i q l e)) ∙ sym (take_more (numerators_over d qs) i (pos 0) (omega (arith, length-tops d qs)))

-- one that is too big
pub top_missed : (d : ℕ) (qs : List ℚ) (i : ℕ) (q : ℚ) → i < length qs → q ≡ get_or qs i q → fits (numerator_over d q) ≡ false → list_all fits (numerators_over d qs) ≡ false
top_missed d qs i q l e h = false_at (numerators_over d qs) i (omega (arith, l, length-tops d qs)) (ap fits (get_or-tops d qs i q l e) ∙ h)

-- neither
pub all_small : (d : ℕ) (tops : List ℤ) → d ≤ 2 ^ 59 → AreSmall tops → list_all fits (pos d ∷ tops) ≡ true
all_small d tops h s = ap₂ (λ a b. a && b) (fits_small (pos d) h) (all_fit tops s)
