-- What the tokens of a number were, by what is read of it.
use Rattle.std.proofs.Common.{◌≡◌, ◌⊎◌, ℕ, suc, pos, Bool, inl, inr, List, [], ◌∷◌, ◌++◌, Some, IfSome, refl, sym, ap, ◌∙◌}
use Rattle.std.proofs.lemmas.Option.{none-some, same_Some}
use Rattle.crn_token.specs.declared.Sign.TheVariants.{Slash}
use Rattle.crn_token.specs.Plain.{Plain, PlainNumber, PlainSign}
use Rattle.crn_fraction.specs.Rational.{ℚ, whole, ◌/ℚ◌}
use Rattle.crn_fraction.proofs.Wholes.{num-whole}
use Rattle.crn_form_text.specs.declared.mark.Mark.{Mark}
use Rattle.crn_form_text.specs.declared.mark.Mark.TheVariants as mark
use Rattle.crn_form_text.specs.declared.number.Count.{Count}
use Rattle.crn_form_text.specs.declared.number.Count.TheVariants as count
use Rattle.crn_form_text.specs.Grammar.{Numeral, Whole, Over, numeral_tokens, signed, fraction}
use Rattle.crn_form_text.specs.Reading.{count_next, count_value, factor_of}
use Rattle.crn_form_text.proofs.Marks.{IsMarked}

abbrev pub WrittenCount : (negative : Bool) → Count → List Plain → Type 0
WrittenCount negative count.Empty p = p ≡ []
WrittenCount negative (count.Whole q) p = (n : ℕ) × (p ≡ numeral_tokens (Whole n)) × (q ≡ fraction negative (Whole n))
WrittenCount negative (count.Over q) p = (n : ℕ) × (p ≡ PlainNumber (pos n) ∷ PlainSign Slash ∷ []) × (q ≡ fraction negative (Whole n))
WrittenCount negative (count.Quotient q) p = (n : ℕ) × (e : ℕ) × (p ≡ numeral_tokens (Over n e)) × (q ≡ fraction negative (Over n e))

-- the quotient by a number below
pub over_whole : (negative : Bool) (n e : ℕ) → whole (whole (signed negative n)).num /ℚ whole (pos (suc e)) ≡ fraction negative (Over n e)
over_whole negative n e = ap (λ m. whole m /ℚ whole (pos (suc e))) (num-whole (signed negative n))

pub count_step : (negative : Bool) (c : Count) (m : Mark) (t : Plain) (p : List Plain) → IsMarked m t → WrittenCount negative c p → IfSome (count_next negative c m) (λ d. WrittenCount negative d (p ++ t ∷ []))
count_step negative count.Empty (mark.Number (pos n)) t p is e = (n, rw (e, is) refl, refl)
count_step negative (count.Whole q) mark.Slash t p is (n, e, f) = (n, rw (e, is) refl, f)
count_step negative (count.Over q) (mark.Number (pos (suc x))) t p is (n, e, f) =
    (n, x, rw (e, is) refl, ap (λ r. whole r.num /ℚ whole (pos (suc x))) f ∙ over_whole negative n x)
count_step negative c m t p is w = tt

-- what a number was written as
abbrev pub IsNumber : (negative : Bool) → ℚ → List Plain → Type 0
IsNumber negative q p = (n : Numeral) × (p ≡ numeral_tokens n) × (q ≡ fraction negative n)

pub value_written : (negative : Bool) (c : Count) (q : ℚ) (p : List Plain) → WrittenCount negative c p → count_value c ≡ Some q → IsNumber negative q p
value_written negative count.Empty q p w e = absurd (none-some q e)
value_written negative (count.Whole r) q p (n, is, f) e = (Whole n, is, sym (same_Some r q e) ∙ f)
value_written negative (count.Over r) q p w e = absurd (none-some q e)
value_written negative (count.Quotient r) q p (n, x, is, f) e = (Over n x, is, sym (same_Some r q e) ∙ f)

-- what the coefficient before a variable was written as
abbrev pub IsFactor : (negative : Bool) → ℚ → List Plain → Type 0
IsFactor negative q p = ((p ≡ []) × (q ≡ whole (signed negative 1))) ⊎ IsNumber negative q p

pub factor_written : (negative : Bool) (c : Count) (q : ℚ) (p : List Plain) → WrittenCount negative c p → factor_of negative c ≡ Some q → IsFactor negative q p
factor_written negative count.Empty q p w e = inl (w, sym (same_Some _ q e))
factor_written negative (count.Whole r) q p w e = inr (value_written negative (count.Whole r) q p w e)
factor_written negative (count.Over r) q p w e = absurd (none-some q e)
factor_written negative (count.Quotient r) q p w e = inr (value_written negative (count.Quotient r) q p w e)
