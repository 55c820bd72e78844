-- What is written of one term of a form, after those before it.
use Rattle.std.specs.Prelude.{ℕ, pos, Bool, true, false, if◌then◌else◌, List, [], ◌∷◌, ◌++◌, codes}
use Rattle.crn_token.specs.Plain.{PlainNumber}
use Rattle.crn_token.specs.Printed.{Item, Shown}
use Rattle.crn_fraction.specs.Rational.{ℚ, is_zero_ℚ}
use Rattle.crn_formula.specs.Formulas.{Formula, Lin, Add, Sub, Scale, Min, Max}
use Rattle.crn_form_text.specs.Grammar.{Signed, term_tokens, minus_before}
use Rattle.crn_form_text.specs.Printing.{variable_term, constant_term, closed_up, spaced_sign}

-- no term stands before
abbrev pub are_none : List Signed → Bool
are_none [] = true
are_none (t ∷ terms) = false

-- the sign before a term
abbrev pub sign_items : (first negative : Bool) → List Item
sign_items true negative = closed_up (minus_before negative)
sign_items false negative = spaced_sign negative

-- the first term, or one more
abbrev pub next_items : (first : Bool) → Signed → List Item
next_items first t = sign_items first t.negative ++ closed_up (term_tokens t.term)

-- the term of a variable, if its coefficient is not 0
abbrev pub variable_items : (first : Bool) → ℕ → ℚ → List Item
variable_items first column q = if is_zero_ℚ q then [] else next_items first (variable_term column q)

-- the constant, if it is not 0 or there is no other term
abbrev pub constant_items : (first : Bool) → ℚ → List Item
constant_items first q = if is_zero_ℚ q then (if first then Shown (PlainNumber (pos 0)) ∷ [] else []) else next_items first (constant_term q)

-- the word of an operator on two operands
abbrev pub word_of : Formula → List ℕ
word_of (Lin form) = []
word_of (Add a b) = codes "add"
word_of (Sub a b) = codes "sub"
word_of (Scale q a) = []
word_of (Min a b) = codes "min"
word_of (Max a b) = codes "max"
