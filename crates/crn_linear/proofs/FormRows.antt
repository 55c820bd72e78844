-- How long the rows of forms are, and which points meet them.
use Rattle.std.proofs.Common.{◌≡◌, ◌↔◌, ℕ, List, length, true, false, sym, ap, ◌∙◌, subst}
use Rattle.std.specs.Prelude.{ℤ}
use Rattle.std.proofs.lemmas.List.{length-map}
use Rattle.crn_fraction.specs.Rational.{ℚ, 0ℚ, ◌≤ℚ◌, ◌<ℚ◌}
use Rattle.crn_fraction.proofs.Linear.{difference_positive}
use Rattle.crn_linear.specs.Forms.{at, minus}
use Rattle.crn_linear.specs.Rows.{Meets, violation}
use Rattle.crn_linear.specs.Cleared.{cleared}
use Rattle.crn_linear.specs.FormRows.{condition_row, above_row}
use Rattle.crn_linear.proofs.Minus.{length-minus, at-minus}
use Rattle.crn_linear.proofs.Multiples.{cleared_is}
use Rattle.crn_linear.proofs.Unique.{meets_cleared}
use Rattle.crn_linear.proofs.Opposites.{negated, at-negated, cleared-negated}

-- ---- lengths
pub length-cleared : (form : List ℚ) → length (cleared form) ≡ length form
length-cleared form =
    let m = (cleared_is form).multiple in
    sym (length-map (cleared form) _) ∙ ap (length {A = ℚ}) m.same ∙ length-map form _

pub length-above : (a b : List ℚ) (n : ℕ) → length a ≡ n → length b ≡ n → length (above_row a b).entries ≡ n
length-above a b n e f = length-cleared (minus a b) ∙ length-minus a b (e ∙ sym f) ∙ e

-- ---- points
pub condition_met : (c x : List ℚ) → Meets (condition_row c) x ↔ (0ℚ ≤ℚ at c x)
condition_met c x = meets_cleared c x false

pub above_met : (a b x : List ℚ) → length a ≡ length b → Meets (above_row a b) x ↔ (at b x <ℚ at a x)
above_met a b x e =
    let both = meets_cleared (minus a b) x true in
    let less = difference_positive (at b x) (at a x) in
    (λ h. less.1 (subst (λ z. 0ℚ <ℚ z) (at-minus a b x e) (both.0 h)), λ h. both.1 (subst (λ z. 0ℚ <ℚ z) (sym (at-minus a b x e)) (less.0 h)))

pub violation_met : (c x : List ℚ) → Meets (violation (condition_row c)) x ↔ (at c x <ℚ 0ℚ)
violation_met c x =
    let there : Meets (violation (condition_row c)) x ↔ (0ℚ <ℚ at (negated c) x) =
    subst (λ (r : List ℤ). Meets (record { entries = r; strict = true }) x ↔ (0ℚ <ℚ at (negated c) x))
    (cleared-negated c) (meets_cleared (negated c) x true) in
    let less = difference_positive (at c x) 0ℚ in
    (λ h. less.1 (subst (λ z. 0ℚ <ℚ z) (at-negated c x) (there.0 h)), λ h. there.1 (subst (λ z. 0ℚ <ℚ z) (sym (at-negated c x)) (less.0 h)))
