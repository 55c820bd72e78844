-- Rows at points with whole numbers.
use Rattle.std.proofs.Common.{◌≡◌, ◌≢◌, ◌↔◌, List, [], ◌∷◌, Bool, true, false, Ordering, Less, Equal, Greater, refl, sym, ap, ◌∙◌, subst, arith}
use Rattle.std.specs.Prelude.{ℤ, pos, ◌*ℤ◌, ◌≤ℤ◌, ◌<ℤ◌}
use Rattle.std.specs.Ordering.{MatchOrdering, int_cmp}
use Rattle.std.specs.Cmp.{int_ranks}
use Rattle.std.proofs.lemmas.Int.{ints}
use Rattle.crn_fraction.specs.Rational.{whole, ◌+ℚ◌, ◌*ℚ◌}
use Rattle.crn_fraction.proofs.Ring.{whole-+ℤ, whole-*ℤ}
use Rattle.crn_fraction.proofs.Order.{over-≤ℚ, over-<ℚ}
use Rattle.crn_linear.specs.Forms.{wholes}
use Rattle.crn_linear.specs.Rows.{Row, dot, value, IsBelow, IsBelow_ℤ, Meets, MeetsWhole}

-- there the sum of the products is a whole number
value-wholes : (row p : List ℤ) → value row (wholes p) ≡ whole (dot row p)
value-wholes [] p = refl
value-wholes (a ∷ row) [] = refl
value-wholes (a ∷ row) (x ∷ p) =
    ap (λ z. whole a *ℚ whole x +ℚ z) (value-wholes row p)
    ∙ ap (λ z. z +ℚ whole (dot row p)) (sym (whole-*ℤ a x)) ∙ sym (whole-+ℤ (a *ℤ x) (dot row p))

-- whole numbers are ordered as rational ones
below_wholes : (strict : Bool) (a b : ℤ) → IsBelow strict (whole a) (whole b) ↔ IsBelow_ℤ strict a b
below_wholes true a b = over-<ℚ a 1 b (omega arith)
below_wholes false a b = over-≤ℚ a 1 b (omega arith)

-- so a whole point meets a row as a rational one does
pub meets_whole : (row : Row) (p : List ℤ) → Meets row (wholes p) ↔ MeetsWhole row p
meets_whole row p =
    let both = below_wholes row.strict (pos 0) (dot row.entries p) in
    let e = value-wholes row.entries p in
    (λ h. both.0 (subst (λ z. IsBelow row.strict (whole (pos 0)) z) e h), λ h. subst (λ z. IsBelow row.strict (whole (pos 0)) z) (sym e) (both.1 h))

above_0 : (d : ℤ) (r : Ordering) → MatchOrdering r (d <ℤ pos 0) (d ≡ pos 0) (pos 0 <ℤ d) → (pos 0 <ℤ d) ↔ (r ≡ Greater)
above_0 d Less m = (λ h. absurd (omega (arith, ints, h, m)), λ e. cc)
above_0 d Equal m = (λ h. absurd (omega (arith, ints, h, m)), λ e. cc)
above_0 d Greater m = (λ h. refl, λ e. m)

at_least_0 : (d : ℤ) (r : Ordering) → MatchOrdering r (d <ℤ pos 0) (d ≡ pos 0) (pos 0 <ℤ d) → (pos 0 ≤ℤ d) ↔ (r ≢ Less)
at_least_0 d Less m = (λ h. absurd (omega (arith, ints, h, m)), λ n. absurd (n refl))
at_least_0 d Equal m = (λ h e. cc, λ n. omega (arith, ints, m))
at_least_0 d Greater m = (λ h e. cc, λ n. omega (arith, ints, m))

-- the order of the sum to 0 tells whether it is above 0
pub above_by_order : (d : ℤ) → (pos 0 <ℤ d) ↔ (int_cmp d (pos 0) ≡ Greater)
above_by_order d = above_0 d (int_cmp d (pos 0)) (int_ranks d (pos 0))

-- and whether it is at least 0
pub at_least_by_order : (d : ℤ) → (pos 0 ≤ℤ d) ↔ (int_cmp d (pos 0) ≢ Less)
at_least_by_order d = at_least_0 d (int_cmp d (pos 0)) (int_ranks d (pos 0))
