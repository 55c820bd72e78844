-- How forms and formulas are printed: as items, tokens with a blank between some of them.
use Rattle.std.specs.Prelude.{ℕ, ◌+◌, ◌-◌, ◌≤◌, ◌==◌, ◌&&◌, Bool, true, false, if◌then◌else◌, ℤ, pos, negsuc, unsigned_abs, List, [], ◌∷◌, ◌++◌, length, take, codes}
use Rattle.crn_token.specs.declared.Sign.TheVariants.{LeftParen, RightParen, Comma, Plus, Minus}
use Rattle.crn_token.specs.Plain.{Plain, PlainWord, PlainSign}
use Rattle.crn_token.specs.Printed.{Item, Shown, Blank}
use Rattle.crn_fraction.specs.Rational.{ℚ, is_zero_ℚ}
use Rattle.crn_fraction.specs.Frac.{IsFrac}
use Rattle.crn_linear.specs.Forms.{entry_of}
use Rattle.crn_formula.specs.Formulas.{Formula, Lin, Add, Sub, Scale, Min, Max}
use Rattle.crn_form_text.specs.Grammar.{Numeral, Whole, Over, numeral_tokens, Variable, Multiple, Constant, term_tokens, Signed, minus_before}
pub use Rattle.crn_linear.specs.Fracs.{AreFracs}

-- the size of a number in lowest terms, and whether it is below 0
abbrev pub numeral_of : ℚ → Numeral
numeral_of q = if q.den == 1 then Whole (unsigned_abs q.num) else Over (unsigned_abs q.num) (q.den - 1)

abbrev pub is_negative : ℤ → Bool
is_negative (pos n) = false
is_negative (negsuc n) = true

abbrev pub is_below : ℚ → Bool
is_below q = is_negative q.num

-- a coefficient of size 1 is not written
abbrev pub has_size_1 : ℚ → Bool
has_size_1 q = unsigned_abs q.num == 1 && q.den == 1

abbrev pub variable_term : ℕ → ℚ → Signed
variable_term column q = record { negative = is_below q; term = if has_size_1 q then Variable column else Multiple (numeral_of q) column }

abbrev pub constant_term : ℚ → Signed
constant_term q = record { negative = is_below q; term = Constant (numeral_of q) }

-- the terms with a variable that are not 0, in ascending order. The first coefficient is that of this column
abbrev pub variable_terms : ℕ → List ℚ → List Signed
variable_terms column [] = []
variable_terms column (q ∷ qs) = if is_zero_ℚ q then variable_terms (column + 1) qs else variable_term column q ∷ variable_terms (column + 1) qs

-- the constant, where it is not 0
abbrev pub constant_terms : ℚ → List Signed
constant_terms q = if is_zero_ℚ q then [] else constant_term q ∷ []

-- where there is no term, the number 0 stands
abbrev pub or_zero : List Signed → List Signed
or_zero [] = record { negative = false; term = Constant (Whole 0) } ∷ []
or_zero (t ∷ terms) = t ∷ terms

-- the terms of a form over k variables, with a column for the constant or without
abbrev pub printed_terms : ℕ → List ℚ → List Signed
printed_terms k form = or_zero (variable_terms 0 (take k form) ++ constant_terms (entry_of form k))

-- tokens without a blank
abbrev pub closed_up : List Plain → List Item
closed_up [] = []
closed_up (t ∷ ts) = Shown t ∷ closed_up ts

-- a sign between two terms
abbrev pub spaced_sign : (negative : Bool) → List Item
spaced_sign true = Blank ∷ Shown (PlainSign Minus) ∷ Blank ∷ []
spaced_sign false = Blank ∷ Shown (PlainSign Plus) ∷ Blank ∷ []

abbrev pub more_items : List Signed → List Item
more_items [] = []
more_items (t ∷ terms) = spaced_sign t.negative ++ closed_up (term_tokens t.term) ++ more_items terms

abbrev pub terms_items : List Signed → List Item
terms_items [] = []
terms_items (t ∷ terms) = closed_up (minus_before t.negative) ++ closed_up (term_tokens t.term) ++ more_items terms

-- a form over k variables
abbrev pub form_items : ℕ → List ℚ → List Item
form_items k form = terms_items (printed_terms k form)

-- the fraction of `scale`
abbrev pub fraction_items : ℚ → List Item
fraction_items q = closed_up (minus_before (is_below q) ++ numeral_tokens (numeral_of q))

-- an operator on two operands
abbrev pub call_items : List ℕ → List Item → List Item → List Item
call_items word a b = Shown (PlainWord word) ∷ Shown (PlainSign LeftParen) ∷ [] ++ (a ++ Shown (PlainSign Comma) ∷ Blank ∷ [] ++ b) ++ Shown (PlainSign RightParen) ∷ []

-- a formula over k variables
abbrev pub formula_items : ℕ → Formula → List Item
formula_items k (Lin form) = form_items k form
formula_items k (Add a b) = call_items (codes "add") (formula_items k a) (formula_items k b)
formula_items k (Sub a b) = call_items (codes "sub") (formula_items k a) (formula_items k b)
formula_items k (Scale q a) = call_items (codes "scale") (fraction_items q) (formula_items k a)
formula_items k (Min a b) = call_items (codes "min") (formula_items k a) (formula_items k b)
formula_items k (Max a b) = call_items (codes "max") (formula_items k a) (formula_items k b)

-- a form with a column for the constant: 0 where it has none
abbrev pub with_constant : ℕ → List ℚ → List ℚ
with_constant k form = take k form ++ entry_of form k ∷ []

abbrev pub with_constants : ℕ → Formula → Formula
with_constants k (Lin form) = Lin (with_constant k form)
with_constants k (Add a b) = Add (with_constants k a) (with_constants k b)
with_constants k (Sub a b) = Sub (with_constants k a) (with_constants k b)
with_constants k (Scale q a) = Scale q (with_constants k a)
with_constants k (Min a b) = Min (with_constants k a) (with_constants k b)
with_constants k (Max a b) = Max (with_constants k a) (with_constants k b)

-- each form has at least so many columns
abbrev pub HasColumnsFor : ℕ → Formula → Type 0
HasColumnsFor k (Lin form) = k ≤ length form
HasColumnsFor k (Add a b) = HasColumnsFor k a × HasColumnsFor k b
HasColumnsFor k (Sub a b) = HasColumnsFor k a × HasColumnsFor k b
HasColumnsFor k (Scale q a) = HasColumnsFor k a
HasColumnsFor k (Min a b) = HasColumnsFor k a × HasColumnsFor k b
HasColumnsFor k (Max a b) = HasColumnsFor k a × HasColumnsFor k b

-- the numbers of a form over k variables are fractions that fit
abbrev pub AreFracsOf : ℕ → List ℚ → Type 0
AreFracsOf k form = AreFracs (take k form) × IsFrac (entry_of form k)

-- at most 8 variables, and each number is a fraction that fits
abbrev pub FitsText : ℕ → Formula → Type 0
FitsText k (Lin form) = (length (take k form) ≤ 8) × AreFracs (take k form) × IsFrac (entry_of form k)
FitsText k (Add a b) = FitsText k a × FitsText k b
FitsText k (Sub a b) = FitsText k a × FitsText k b
FitsText k (Scale q a) = IsFrac q × FitsText k a
FitsText k (Min a b) = FitsText k a × FitsText k b
FitsText k (Max a b) = FitsText k a × FitsText k b
