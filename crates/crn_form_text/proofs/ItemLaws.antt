-- The tokens of what is printed keep apart, so that its bytes read back as these tokens.
use Rattle.std.proofs.Common.{◌≡◌, ℕ, suc, ◌+◌, ◌≤◌, eqb, Bool, true, false, ℤ, pos, IsTrue, List, [], ◌∷◌, ◌++◌, length, take, refl, sym, ◌∙◌, subst, ⊎_elim, arith, append_assoc}
use Rattle.std.specs.Prelude.{codes}
use Rattle.std.proofs.lemmas.Bool.{cases_Bool}
use Rattle.crn_token.specs.declared.Sign.{Sign}
use Rattle.crn_token.specs.declared.Sign.TheVariants.{LeftParen, RightParen, Comma, Minus}
use Rattle.crn_token.specs.Plain.{PlainWord, PlainNumber, PlainSign}
use Rattle.crn_token.specs.Printed.{Item, Shown, Blank, IsToken, ends_before, IsPrinted}
use Rattle.crn_token.proofs.PrintedLaws.{IsToken-number}
use Rattle.crn_fraction.specs.Rational.{ℚ, is_zero_ℚ}
use Rattle.crn_fraction.specs.Frac.{IsFrac}
use Rattle.crn_linear.specs.Forms.{entry_of}
use Rattle.crn_formula.specs.Formulas.{Formula, Lin, Add, Sub, Scale, Min, Max}
use Rattle.crn_form_text.specs.Grammar.{Numeral, Whole, Over, numeral_tokens, name_tokens, Term, Variable, Multiple, Constant, term_tokens, Signed, minus_before}
use Rattle.crn_form_text.specs.Printing.{numeral_of, has_size_1, variable_term, variable_terms, constant_terms, or_zero, closed_up, spaced_sign, more_items, terms_items, form_items, is_below, fraction_items, call_items, formula_items, AreFracs, FitsText}

-- a number token fits
abbrev IsSmallNumeral : Numeral → Type 0
IsSmallNumeral (Whole n) = n ≤ 9223372036854775807
IsSmallNumeral (Over n e) = (n ≤ 9223372036854775807) × (suc e ≤ 9223372036854775807)

abbrev IsSmallTerm : Term → Type 0
IsSmallTerm (Variable column) = column ≤ 8
IsSmallTerm (Multiple n column) = IsSmallNumeral n × (column ≤ 8)
IsSmallTerm (Constant n) = IsSmallNumeral n

abbrev AreSmallTerms : List Signed → Type 0
AreSmallTerms [] = Unit {0}
AreSmallTerms (t ∷ terms) = IsSmallTerm t.term × AreSmallTerms terms

-- what follows keeps apart from a number
abbrev pub Ends : List Item → Type 0
Ends rest = (n : ℤ) → IsTrue (ends_before (PlainNumber n) rest)

numeral_printed : (n : Numeral) (rest : List Item) → IsSmallNumeral n → Ends rest → IsPrinted rest → IsPrinted (closed_up (numeral_tokens n) ++ rest)
numeral_printed (Whole n) rest small ends printed = (IsToken-number n small, ends (pos n), printed)
numeral_printed (Over n e) rest small ends printed = (IsToken-number n small.0, refl, (tt, refl, (IsToken-number (suc e) small.1, ends (pos (suc e)), printed)))

name_printed : (column : ℕ) (rest : List Item) → column ≤ 8 → Ends rest → IsPrinted rest → IsPrinted (closed_up (name_tokens column) ++ rest)
name_printed column rest small ends printed = (refl, refl, (IsToken-number (suc column) (omega arith), ends (pos (suc column)), printed))

term_printed : (t : Term) (rest : List Item) → IsSmallTerm t → Ends rest → IsPrinted rest → IsPrinted (closed_up (term_tokens t) ++ rest)
term_printed (Variable column) rest small ends printed = name_printed column rest small ends printed
term_printed (Multiple (Whole n) column) rest small ends printed = numeral_printed (Whole n) (closed_up (name_tokens column) ++ rest) small.0 (λ m. refl) (name_printed column rest small.1 ends printed)
term_printed (Multiple (Over n e) column) rest small ends printed = numeral_printed (Over n e) (closed_up (name_tokens column) ++ rest) small.0 (λ m. refl) (name_printed column rest small.1 ends printed)
term_printed (Constant n) rest small ends printed = numeral_printed n rest small ends printed

-- a sign keeps apart from a term
sign_ends : (sign : Sign) (t : Term) (rest : List Item) → IsTrue (ends_before (PlainSign sign) (closed_up (term_tokens t) ++ rest))
sign_ends sign (Variable column) rest = refl
sign_ends sign (Multiple (Whole n) column) rest = refl
sign_ends sign (Multiple (Over n e) column) rest = refl
sign_ends sign (Constant (Whole n)) rest = refl
sign_ends sign (Constant (Over n e)) rest = refl

spaced : (negative : Bool) (items : List Item) → IsPrinted items → IsPrinted (spaced_sign negative ++ items)
spaced true items printed = (tt, refl, printed)
spaced false items printed = (tt, refl, printed)

spaced_ends : (negative : Bool) (items : List Item) → Ends (spaced_sign negative ++ items)
spaced_ends true items = λ n. refl
spaced_ends false items = λ n. refl

-- more terms, and then the rest
record Goes (items : List Item) : Type 0 where
  printed : IsPrinted items
  ends : Ends items

more_printed : (terms : List Signed) (rest : List Item) → AreSmallTerms terms → Goes rest → Goes (more_items terms ++ rest)
more_printed [] rest small goes = goes
more_printed (t ∷ terms) rest (here, small) goes =
    let more = more_printed terms rest small goes in
    let parts : spaced_sign t.negative ++ (closed_up (term_tokens t.term) ++ (more_items terms ++ rest)) ≡ more_items (t ∷ terms) ++ rest =
    sym (append_assoc (spaced_sign t.negative) (closed_up (term_tokens t.term)) (more_items terms ++ rest))
    ∙ sym (append_assoc (spaced_sign t.negative ++ closed_up (term_tokens t.term)) (more_items terms) rest) in
    subst Goes parts (
    record {
      printed = spaced t.negative _ (term_printed t.term (more_items terms ++ rest) here more.ends more.printed);
      ends = spaced_ends t.negative (closed_up (term_tokens t.term) ++ (more_items terms ++ rest));
    })

terms_printed : (t : Signed) (terms : List Signed) (rest : List Item) → IsSmallTerm t.term → AreSmallTerms terms → Ends rest → IsPrinted rest → IsPrinted (terms_items (t ∷ terms) ++ rest)
terms_printed t terms rest here small ends printed =
    let more = more_printed terms rest small (record { printed = printed; ends = ends }) in
    let parts : closed_up (minus_before t.negative) ++ (closed_up (term_tokens t.term) ++ (more_items terms ++ rest)) ≡ terms_items (t ∷ terms) ++ rest =
    sym (append_assoc (closed_up (minus_before t.negative)) (closed_up (term_tokens t.term)) (more_items terms ++ rest))
    ∙ sym (append_assoc (closed_up (minus_before t.negative) ++ closed_up (term_tokens t.term)) (more_items terms) rest) in
    subst IsPrinted parts (led t.negative (term_printed t.term (more_items terms ++ rest) here more.ends more.printed))
  where
    led : (negative : Bool) → IsPrinted (closed_up (term_tokens t.term) ++ (more_items terms ++ rest)) → IsPrinted (closed_up (minus_before negative) ++ (closed_up (term_tokens t.term) ++ (more_items terms ++ rest)))
    led true printed = (tt, sign_ends Minus t.term (more_items terms ++ rest), printed)
    led false printed = printed

-- ---- the terms of a form
small_numeral : (q : ℚ) → IsFrac q → IsSmallNumeral (numeral_of q)
small_numeral q fits =
    ⊎_elim
    (λ one. rw one (omega (arith, fits.num_fits)))
    (λ more. rw more (omega (arith, fits.num_fits), omega (arith, fits.den_fits, q.lowest.positive)))
    (cases_Bool (eqb q.den 1))

small_variable : (column : ℕ) (q : ℚ) → column ≤ 8 → IsFrac q → IsSmallTerm (variable_term column q).term
small_variable column q low fits = ⊎_elim (λ one. rw one low) (λ more. rw more (small_numeral q fits, low)) (cases_Bool (has_size_1 q))

small_variables : (c : ℕ) (qs : List ℚ) (rest : List Signed) → c + length qs ≤ 8 → AreFracs qs → AreSmallTerms rest → AreSmallTerms (variable_terms c qs ++ rest)
small_variables c [] rest low fits small = small
small_variables c (q ∷ qs) rest low (fits_q, fits) small =
    let more = small_variables (c + 1) qs rest (omega arith) fits small in
    ⊎_elim (λ none. rw none more) (λ some. rw some (small_variable c q (omega arith) fits_q, more)) (cases_Bool (is_zero_ℚ q))

small_constant : (q : ℚ) → IsFrac q → AreSmallTerms (constant_terms q)
small_constant q fits = ⊎_elim (λ none. rw none tt) (λ some. rw some (small_numeral q fits, tt)) (cases_Bool (is_zero_ℚ q))

-- a printed form, and then what keeps apart from a number
pub form_is_printed : (k : ℕ) (form : List ℚ) (rest : List Item) → length (take k form) ≤ 8 → AreFracs (take k form) → IsFrac (entry_of form k) → Ends rest → IsPrinted rest → IsPrinted (form_items k form ++ rest)
form_is_printed k form rest low fits fits_constant ends printed =
    go (variable_terms 0 (take k form) ++ constant_terms (entry_of form k)) (small_variables 0 (take k form) (constant_terms (entry_of form k)) (omega arith) fits (small_constant (entry_of form k) fits_constant))
  where
    go : (terms : List Signed) → AreSmallTerms terms → IsPrinted (terms_items (or_zero terms) ++ rest)
    go [] small = terms_printed (record { negative = false; term = Constant (Whole 0) }) [] rest (omega arith) tt ends printed
    go (t ∷ terms) (here, small) = terms_printed t terms rest here small ends printed

-- ---- formulas
open_ends : (items : List Item) → IsTrue (ends_before (PlainSign LeftParen) items)
open_ends [] = refl
open_ends (Blank ∷ items) = refl
open_ends (Shown (PlainWord w) ∷ items) = refl
open_ends (Shown (PlainNumber n) ∷ items) = refl
open_ends (Shown (PlainSign s) ∷ items) = refl

close_ends : (items : List Item) → IsTrue (ends_before (PlainSign RightParen) items)
close_ends [] = refl
close_ends (Blank ∷ items) = refl
close_ends (Shown (PlainWord w) ∷ items) = refl
close_ends (Shown (PlainNumber n) ∷ items) = refl
close_ends (Shown (PlainSign s) ∷ items) = refl

-- what stands before anything that keeps apart from a number
abbrev Stands : List Item → Type 0
Stands items = (rest : List Item) → Ends rest → IsPrinted rest → IsPrinted (items ++ rest)

call_printed : (word : List ℕ) (a b : List Item) → IsToken (PlainWord word) → Stands a → Stands b → Stands (call_items word a b)
call_printed word a b is_word stands_a stands_b rest ends printed =
    let last : IsPrinted (Shown (PlainSign RightParen) ∷ rest) = (tt, close_ends rest, printed) in
    let second : IsPrinted (b ++ Shown (PlainSign RightParen) ∷ rest) = stands_b (Shown (PlainSign RightParen) ∷ rest) (λ n. refl) last in
    let first : IsPrinted (a ++ Shown (PlainSign Comma) ∷ Blank ∷ (b ++ Shown (PlainSign RightParen) ∷ rest)) = stands_a _ (λ n. refl) (tt, refl, second) in
    let parts : a ++ Shown (PlainSign Comma) ∷ Blank ∷ (b ++ Shown (PlainSign RightParen) ∷ rest) ≡ ((a ++ Shown (PlainSign Comma) ∷ Blank ∷ [] ++ b) ++ Shown (PlainSign RightParen) ∷ []) ++ rest = simp append_assoc in
    (is_word, refl, (tt, open_ends _, subst IsPrinted parts first))

fraction_stands : (q : ℚ) → IsFrac q → Stands (fraction_items q)
fraction_stands q fits rest ends printed = go (is_below q) (numeral_of q) (small_numeral q fits)
  where
    go : (negative : Bool) (n : Numeral) → IsSmallNumeral n → IsPrinted (closed_up (minus_before negative ++ numeral_tokens n) ++ rest)
    go true (Whole n) small = (tt, refl, numeral_printed (Whole n) rest small ends printed)
    go true (Over n e) small = (tt, refl, numeral_printed (Over n e) rest small ends printed)
    go false n small = numeral_printed n rest small ends printed

pub formula_is_printed : (k : ℕ) (e : Formula) → FitsText k e → Stands (formula_items k e)
formula_is_printed k (Lin form) (low, fits, fits_constant) = λ rest ends printed. form_is_printed k form rest low fits fits_constant ends printed
formula_is_printed k (Add a b) (fa, fb) = call_printed (codes "add") (formula_items k a) (formula_items k b) refl (formula_is_printed k a fa) (formula_is_printed k b fb)
formula_is_printed k (Sub a b) (fa, fb) = call_printed (codes "sub") (formula_items k a) (formula_items k b) refl (formula_is_printed k a fa) (formula_is_printed k b fb)
formula_is_printed k (Scale q a) (fq, fa) = call_printed (codes "scale") (fraction_items q) (formula_items k a) refl (fraction_stands q fq) (formula_is_printed k a fa)
formula_is_printed k (Min a b) (fa, fb) = call_printed (codes "min") (formula_items k a) (formula_items k b) refl (formula_is_printed k a fa) (formula_is_printed k b fb)
formula_is_printed k (Max a b) (fa, fb) = call_printed (codes "max") (formula_items k a) (formula_items k b) refl (formula_is_printed k a fa) (formula_is_printed k b fb)
