-- The form and the formula that tokens spell, by cases on the tokens, over any number of variables.
use Rattle.std.specs.Prelude.{ℕ, zero, suc, ◌+◌, ◌==◌, ◌&&◌, not, nat_lt, pos, Bool, true, false, if◌then◌else◌, List, [], ◌∷◌, length, map, take, drop, replicate, Option, Some, None, codes}
use Rattle.std.specs.List.{range_with_len}
use Rattle.std.specs.Option.{option_map, option_and_then, option_map_or}
use Rattle.std.specs.Str.{bytes_eq}
use Rattle.crn_token.specs.declared.Sign.TheVariants.{LeftParen, RightParen, Comma, Plus, Minus}
use Rattle.crn_token.specs.Plain.{Plain, PlainWord, PlainNumber, PlainSign}
use Rattle.crn_fraction.specs.Rational.{ℚ, 0ℚ}
use Rattle.crn_formula.specs.Formulas.{Formula, Lin, Scale}
use Rattle.crn_form_text.specs.declared.mark.Operator.{Operator}
use Rattle.crn_form_text.specs.declared.mark.Mark.{Mark}
use Rattle.crn_form_text.specs.declared.mark.Mark.TheVariants as mark
use Rattle.crn_form_text.specs.Grammar.{Numeral, Whole, Over, fraction, Term, Variable, Multiple, Constant, Signed, column_of, entry_in}
use Rattle.crn_form_text.specs.Reading.{word_mark, denominator_at}
use Rattle.crn_form_text.specs.Built.{applied}

-- Each of these takes what it is named after from the beginning of some tokens, with the tokens that are left.

-- ---- terms

-- the column of the variable `xI`
abbrev pub column_at : List Plain → Option ℕ
column_at (PlainWord w ∷ PlainNumber (pos (suc column)) ∷ tokens) = if bytes_eq w (codes "x") then Some column else None
column_at _ = None

-- after a number: `/` and a number that is not 0, or nothing
abbrev pub numeral_after : ℕ → List Plain → Numeral × List Plain
numeral_after n tokens = option_map_or (λ e. (Over n e, drop 2 tokens)) (denominator_at tokens) (Whole n, tokens)

abbrev pub numeral_at : List Plain → Option (Numeral × List Plain)
numeral_at (PlainNumber (pos n) ∷ tokens) = Some (numeral_after n tokens)
numeral_at _ = None

-- after a numeral: a variable, or nothing
abbrev pub term_after : Numeral → List Plain → Term × List Plain
term_after n tokens = option_map_or (λ column. (Multiple n column, drop 2 tokens)) (column_at tokens) (Constant n, tokens)

abbrev pub term_at : List Plain → Option (Term × List Plain)
term_at tokens = option_map_or (λ column. Some (Variable column, drop 2 tokens)) (column_at tokens) (option_map (λ p. term_after p.0 p.1) (numeral_at tokens))

-- ---- forms

abbrev pub with_sign : Bool → Term → Signed
with_sign negative t = record { negative = negative; term = t }

-- a term with this sign, and what is taken after it
abbrev pub and_more : (List Plain → Option (List Signed × List Plain)) → Bool → Option (Term × List Plain) → Option (List Signed × List Plain)
and_more more negative o = option_and_then (λ t. option_map (λ m. (with_sign negative t.0 ∷ m.0, m.1)) (more t.1)) o

-- terms with `+` or `-` before each, at most so many
abbrev pub more_at : ℕ → List Plain → Option (List Signed × List Plain)
more_at (suc n) (PlainSign Plus ∷ tokens) = and_more (more_at n) false (term_at tokens)
more_at (suc n) (PlainSign Minus ∷ tokens) = and_more (more_at n) true (term_at tokens)
more_at n tokens = Some ([], tokens)

-- a term that may have `-` before it, and all that follow it. There are no more of them than tokens
abbrev pub terms_at : List Plain → Option (List Signed × List Plain)
terms_at (PlainSign Minus ∷ tokens) = and_more (λ left. more_at (length left) left) true (term_at tokens)
terms_at tokens = and_more (λ left. more_at (length left) left) false (term_at tokens)

-- each variable is one of k
abbrev pub is_over : ℕ → Term → Bool
is_over k (Variable column) = nat_lt column k
is_over k (Multiple n column) = nat_lt column k
is_over k (Constant n) = true

abbrev pub are_over : ℕ → List Signed → Bool
are_over k [] = true
are_over k (t ∷ terms) = is_over k t.term && are_over k terms

-- no two terms stand in one column
abbrev pub is_free : ℕ → ℕ → List Signed → Bool
is_free k column [] = true
is_free k column (t ∷ terms) = not (column_of k t.term == column) && is_free k column terms

abbrev pub stand_once : ℕ → List Signed → Bool
stand_once k [] = true
stand_once k (t ∷ terms) = is_free k (column_of k t.term) terms && stand_once k terms

-- the form of the terms, with a column for each variable and one for the constant
abbrev pub form_of_terms : ℕ → List Signed → List ℚ
form_of_terms k terms = map (entry_in k terms) (range_with_len 0 (k + 1))

abbrev pub form_with_terms : ℕ → List Signed × List Plain → Option (List ℚ × List Plain)
form_with_terms k p = if are_over k p.0 && stand_once k p.0 then Some (form_of_terms k p.0, p.1) else None

abbrev pub form_at : ℕ → List Plain → Option (List ℚ × List Plain)
form_at k tokens = option_and_then (form_with_terms k) (terms_at tokens)

-- ---- formulas

-- what is taken, and a `,` or a `)` after it
abbrev pub after_comma : {T : Type 0} → T × List Plain → Option (T × List Plain)
after_comma (a, PlainSign Comma ∷ tokens) = Some (a, tokens)
after_comma _ = None

abbrev pub after_right : {T : Type 0} → T × List Plain → Option (T × List Plain)
after_right (a, PlainSign RightParen ∷ tokens) = Some (a, tokens)
after_right _ = None

-- a fraction that may have `-` before it
abbrev pub factor_at : List Plain → Option (ℚ × List Plain)
factor_at (PlainSign Minus ∷ tokens) = option_map (λ n. (fraction true n.0, n.1)) (numeral_at tokens)
factor_at tokens = option_map (λ n. (fraction false n.0, n.1)) (numeral_at tokens)

-- after a word and `(`: the operands, where each formula in them is taken so
abbrev pub two_at : (List Plain → Option (Formula × List Plain)) → Operator → List Plain → Option (Formula × List Plain)
two_at formula o tokens =
    option_and_then (λ a. option_map (λ b. (applied o a.0 b.0, b.1)) (option_and_then after_right (formula a.1))) (option_and_then after_comma (formula tokens))

abbrev pub scaled_at : (List Plain → Option (Formula × List Plain)) → List Plain → Option (Formula × List Plain)
scaled_at formula tokens =
    option_and_then (λ q. option_map (λ a. (Scale q.0 a.0, a.1)) (option_and_then after_right (formula q.1))) (option_and_then after_comma (factor_at tokens))

abbrev pub call_at : (List Plain → Option (Formula × List Plain)) → Mark → List Plain → Option (Formula × List Plain)
call_at formula (mark.Word o) tokens = two_at formula o tokens
call_at formula mark.Scale tokens = scaled_at formula tokens
call_at formula _ tokens = None

-- a formula whose calls stand in one another less than so often
abbrev pub formula_at : ℕ → ℕ → List Plain → Option (Formula × List Plain)
formula_at k zero tokens = None
formula_at k (suc n) (PlainWord w ∷ PlainSign LeftParen ∷ tokens) = call_at (formula_at k n) (word_mark w) tokens
formula_at k (suc n) tokens = option_map (λ f. (Lin f.0, f.1)) (form_at k tokens)

-- ---- all of some tokens
abbrev pub nothing_left : {T : Type 0} → T × List Plain → Option T
nothing_left (a, []) = Some a
nothing_left (a, token ∷ tokens) = None

-- the form over k variables that the tokens spell
unfoldable pub form_from : ℕ → List Plain → Option (List ℚ)
form_from k tokens = option_and_then nothing_left (form_at k tokens)

-- each term has a variable and no `-` before it
abbrev pub has_variable : Term → Bool
has_variable (Variable column) = true
has_variable (Multiple n column) = true
has_variable (Constant n) = false

abbrev pub are_plain : List Signed → Bool
are_plain [] = true
are_plain (t ∷ terms) = (not t.negative && has_variable t.term) && are_plain terms

-- the number 0 alone
abbrev pub is_zero : List Plain → Bool
is_zero (PlainNumber (pos zero) ∷ []) = true
is_zero _ = false

abbrev pub plain_with_terms : ℕ → List Signed → Option (List ℚ)
plain_with_terms k terms = if are_plain terms && (are_over k terms && stand_once k terms) then Some (take k (form_of_terms k terms)) else None

-- the form without negative coefficients that they spell
unfoldable pub plain_form_from : ℕ → List Plain → Option (List ℚ)
plain_form_from k tokens = if is_zero tokens then Some (replicate k 0ℚ) else option_and_then (plain_with_terms k) (option_and_then nothing_left (terms_at tokens))

-- the formula over k variables that they spell. Calls stand in one another less often than there are tokens
unfoldable pub formula_from : ℕ → List Plain → Option Formula
formula_from k tokens = option_and_then nothing_left (formula_at k (length tokens) tokens)
