-- What is printed spells what was printed.
use Rattle.std.proofs.Common.{◌≡◌, ◌≢◌, ℕ, zero, suc, ◌+◌, ◌-◌, ◌<◌, ◌≤◌, eqb, Bool, true, false, cond, ℤ, pos, negsuc, List, [], ◌∷◌, ◌++◌, length, take, get_or, refl, sym, ap, ap₂, ◌∙◌, subst, ⊎_elim, arith, eqb-true, eq-eqb, length-append}
use Rattle.std.specs.Prelude.{codes, unsigned_abs}
use Rattle.std.proofs.lemmas.Bool.{cases_Bool, cases_lt, and_parts}
use Rattle.std.proofs.lemmas.List.{length-take-le, get_or_push}
use Rattle.std.proofs.Math.ListN.{get_or-append}
use Rattle.crn_token.specs.declared.Sign.TheVariants.{LeftParen, RightParen, Comma}
use Rattle.crn_token.specs.Plain.{Plain, PlainWord, PlainSign}
use Rattle.crn_token.specs.Printed.{Item, Shown, Blank, shown}
use Rattle.crn_token.proofs.Joins.{shown-append}
use Rattle.crn_fraction.specs.Rational.{ℚ, 0ℚ, whole, ◌/ℚ◌, is_zero_ℚ}
use Rattle.crn_fraction.proofs.Products.{is_zero_ℚ_cases, /ℚ-one}
use Rattle.crn_fraction.proofs.Values.{parts_quotient}
use Rattle.crn_linear.specs.Forms.{entry_of}
use Rattle.crn_formula.specs.Formulas.{Formula, Lin, Add, Sub, Scale, Min, Max}
use Rattle.crn_form_text.specs.Grammar.{numeral_tokens, signed, fraction, term_tokens, Signed, minus_before, sign_before, more_tokens, form_tokens, column_of, coefficient, IsTermOver, AreTermsOver, IsFree, StandOnce, entry_in, AreTermsOf, SpellsForm, SpellsSigned, SpellsFormula, call, pair}
use Rattle.crn_form_text.specs.Printing.{numeral_of, is_negative, is_below, has_size_1, variable_term, variable_terms, constant_terms, or_zero, printed_terms, closed_up, spaced_sign, more_items, terms_items, form_items, fraction_items, call_items, formula_items, with_constant, with_constants, HasColumnsFor}

-- ---- tokens
shown_closed : (ts : List Plain) → shown (closed_up ts) ≡ ts
shown_closed [] = refl
shown_closed (t ∷ ts) = ap (λ l. t ∷ l) (shown_closed ts)

shown_sign : (negative : Bool) → shown (spaced_sign negative) ≡ sign_before negative
shown_sign true = refl
shown_sign false = refl

shown_more : (terms : List Signed) → shown (more_items terms) ≡ more_tokens terms
shown_more [] = refl
shown_more (t ∷ terms) =
    shown-append (spaced_sign t.negative ++ closed_up (term_tokens t.term)) (more_items terms)
    ∙ ap₂ (λ a b. a ++ b) (shown-append (spaced_sign t.negative) (closed_up (term_tokens t.term)) ∙ ap₂ (λ a b. a ++ b) (shown_sign t.negative) (shown_closed (term_tokens t.term))) (shown_more terms)

pub shown_terms : (terms : List Signed) → shown (terms_items terms) ≡ form_tokens terms
shown_terms [] = refl
shown_terms (t ∷ terms) =
    shown-append (closed_up (minus_before t.negative) ++ closed_up (term_tokens t.term)) (more_items terms)
    ∙ ap₂ (λ a b. a ++ b) (shown-append (closed_up (minus_before t.negative)) (closed_up (term_tokens t.term)) ∙ ap₂ (λ a b. a ++ b) (shown_closed (minus_before t.negative)) (shown_closed (term_tokens t.term))) (shown_more terms)

-- ---- numbers
signed_back : (n : ℤ) → signed (is_negative n) (unsigned_abs n) ≡ n
signed_back (pos n) = refl
signed_back (negsuc n) = refl

numeral_back : (q : ℚ) → fraction (is_below q) (numeral_of q) ≡ q
numeral_back q =
    ⊎_elim
    (λ one. rw one (
    ap whole (signed_back q.num) ∙ sym (/ℚ-one (whole q.num))
    ∙ ap (λ d. whole q.num /ℚ whole (pos d)) (sym (eqb-true _ _ one)) ∙ parts_quotient q))
    (λ more. rw more (
    let low : suc (q.den - 1) ≡ q.den = omega (arith, q.lowest.positive) in
    ap₂ (λ n d. whole n /ℚ whole (pos d)) (signed_back q.num) low ∙ parts_quotient q))
    (cases_Bool (eqb q.den 1))

-- ---- terms
unit_back : (q : ℚ) → has_size_1 q ≡ true → whole (signed (is_below q) 1) ≡ q
unit_back q e =
    let size : unsigned_abs q.num ≡ 1 = eqb-true _ _ (and_parts _ _ e).0 in
    let one : eqb q.den 1 ≡ true = (and_parts _ _ e).1 in
    ap (λ n. whole (signed (is_below q) n)) (sym size) ∙ ap whole (signed_back q.num) ∙ sym (/ℚ-one (whole q.num))
    ∙ ap (λ d. whole q.num /ℚ whole (pos d)) (sym (eqb-true _ _ one)) ∙ parts_quotient q

variable_back : (column : ℕ) (q : ℚ) → coefficient (variable_term column q) ≡ q
variable_back column q = ⊎_elim (λ one. rw one (unit_back q one)) (λ more. rw more (numeral_back q)) (cases_Bool (has_size_1 q))

variable_column : (k column : ℕ) (q : ℚ) → column_of k (variable_term column q).term ≡ column
variable_column k column q = ⊎_elim (λ one. rw one refl) (λ more. rw more refl) (cases_Bool (has_size_1 q))

variable_over : (k column : ℕ) (q : ℚ) → column < k → IsTermOver k (variable_term column q).term
variable_over k column q within = ⊎_elim (λ one. rw one within) (λ more. rw more within) (cases_Bool (has_size_1 q))

-- the terms with a variable, in columns from one on, and then others
module _ (k : ℕ) where
  or_term : ℕ → ℚ → Bool → List Signed → List Signed
  or_term c q zero_q more = cond zero_q more (variable_term c q ∷ more)

  free : (c : ℕ) (qs : List ℚ) (rest : List Signed) (column : ℕ) → column < c → IsFree k column rest → IsFree k column (variable_terms c qs ++ rest)
  free c [] rest column low h = h
  free c (q ∷ qs) rest column low h =
      let more = free (c + 1) qs rest column (omega arith) h in
      ⊎_elim (λ none. rw none more) (λ some. rw some ((λ e. absurd (omega (arith, e, variable_column k c q))), more)) (cases_Bool (is_zero_ℚ q))

  over : (c : ℕ) (qs : List ℚ) (rest : List Signed) → c + length qs ≤ k → AreTermsOver k rest → AreTermsOver k (variable_terms c qs ++ rest)
  over c [] rest within h = h
  over c (q ∷ qs) rest within h =
      let more = over (c + 1) qs rest (omega arith) h in
      ⊎_elim (λ none. rw none more) (λ some. rw some (variable_over k c q (omega arith), more)) (cases_Bool (is_zero_ℚ q))

  once : (c : ℕ) (qs : List ℚ) (rest : List Signed) → c + length qs ≤ k → ((column : ℕ) → column < k → IsFree k column rest) → StandOnce k rest → StandOnce k (variable_terms c qs ++ rest)
  once c [] rest within apart h = h
  once c (q ∷ qs) rest within apart h =
      let more = once (c + 1) qs rest (omega arith) apart h in
      let here : IsFree k c (variable_terms (c + 1) qs ++ rest) = free (c + 1) qs rest c (omega arith) (apart c (omega arith)) in
      ⊎_elim (λ none. rw none more) (λ some. rw some (subst (λ d. IsFree k d (variable_terms (c + 1) qs ++ rest)) (sym (variable_column k c q)) here, more)) (cases_Bool (is_zero_ℚ q))

  -- a column that no term of these has
  passed : (c : ℕ) (q : ℚ) (more : List Signed) (column : ℕ) → c ≢ column → entry_in k (variable_term c q ∷ more) column ≡ entry_in k more column
  passed c q more column other =
      ⊎_elim (λ same. absurd (other (sym (variable_column k c q) ∙ eqb-true _ _ same))) (λ differs. rw differs refl) (cases_Bool (eqb (column_of k (variable_term c q).term) column))

  entry_outside : (c : ℕ) (qs : List ℚ) (rest : List Signed) (column : ℕ) → ((i : ℕ) → i < length qs → c + i ≢ column) → entry_in k (variable_terms c qs ++ rest) column ≡ entry_in k rest column
  entry_outside c [] rest column other = refl
  entry_outside c (q ∷ qs) rest column other =
      let more = entry_outside (c + 1) qs rest column (λ i within e. other (suc i) (omega arith) (omega arith)) in
      ⊎_elim (λ none. rw none more) (λ some. rw some (passed c q (variable_terms (c + 1) qs ++ rest) column (λ e. other 0 (omega arith) (omega arith)) ∙ more)) (cases_Bool (is_zero_ℚ q))

  entry_inside : (c : ℕ) (qs : List ℚ) (rest : List Signed) (i : ℕ) → i < length qs → entry_in k rest (c + i) ≡ 0ℚ → entry_in k (variable_terms c qs ++ rest) (c + i) ≡ get_or qs i 0ℚ
  entry_inside c [] rest i within h = absurd (omega arith)
  entry_inside c (q ∷ qs) rest zero within h =
      let here : c + 0 ≡ c = omega arith in
      let more : entry_in k (variable_terms (c + 1) qs ++ rest) (c + 0) ≡ 0ℚ = entry_outside (c + 1) qs rest (c + 0) (λ i w e. absurd (omega arith)) ∙ h in
      ⊎_elim
      (λ none. rw none.1 (more ∙ sym none.0))
      (λ some. rw some.1 (
      let same : eqb (column_of k (variable_term c q).term) (c + 0) ≡ true = rw (variable_column k c q, here) (eq-eqb c c refl) in
      rw same (variable_back c q)))
      (is_zero_ℚ_cases q)
  entry_inside c (q ∷ qs) rest (suc i) within h =
      let next : c + suc i ≡ c + 1 + i = omega arith in
      let more : entry_in k (variable_terms (c + 1) qs ++ rest) (c + suc i) ≡ get_or qs i 0ℚ =
      ap (entry_in k (variable_terms (c + 1) qs ++ rest)) next ∙ entry_inside (c + 1) qs rest i (omega arith) (ap (entry_in k rest) (sym next) ∙ h) in
      ⊎_elim (λ none. rw none more) (λ some. rw some (passed c q (variable_terms (c + 1) qs ++ rest) (c + suc i) (λ e. absurd (omega arith)) ∙ more)) (cases_Bool (is_zero_ℚ q))

  -- the constant
  constant_free : (q : ℚ) (column : ℕ) → column < k → IsFree k column (constant_terms q)
  constant_free q column low = ⊎_elim (λ none. rw none tt) (λ some. rw some ((λ e. absurd (omega arith)), tt)) (cases_Bool (is_zero_ℚ q))

  constant_over : (q : ℚ) → AreTermsOver k (constant_terms q)
  constant_over q = ⊎_elim (λ none. rw none tt) (λ some. rw some (tt, tt)) (cases_Bool (is_zero_ℚ q))

  constant_once : (q : ℚ) → StandOnce k (constant_terms q)
  constant_once q = ⊎_elim (λ none. rw none tt) (λ some. rw some (tt, tt)) (cases_Bool (is_zero_ℚ q))

  constant_below : (q : ℚ) (column : ℕ) → column < k → entry_in k (constant_terms q) column ≡ 0ℚ
  constant_below q column low =
      ⊎_elim
      (λ none. rw none refl)
      (λ some. rw some (⊎_elim (λ same. absurd (omega (arith, eqb-true k column same))) (λ other. rw other refl) (cases_Bool (eqb k column))))
      (cases_Bool (is_zero_ℚ q))

  constant_at : (q : ℚ) → entry_in k (constant_terms q) k ≡ q
  constant_at q = ⊎_elim (λ none. rw none.1 (sym none.0)) (λ some. rw some.1 (rw (eq-eqb k k refl) (numeral_back q))) (is_zero_ℚ_cases q)

  -- the number 0 in place of no term
  zero_long : (terms : List Signed) → 0 < length (or_zero terms)
  zero_long [] = omega arith
  zero_long (t ∷ terms) = omega arith

  zero_over : (terms : List Signed) → AreTermsOver k terms → AreTermsOver k (or_zero terms)
  zero_over [] h = (tt, tt)
  zero_over (t ∷ terms) h = h

  zero_once : (terms : List Signed) → StandOnce k terms → StandOnce k (or_zero terms)
  zero_once [] h = (tt, tt)
  zero_once (t ∷ terms) h = h

  zero_entry : (terms : List Signed) (column : ℕ) → entry_in k (or_zero terms) column ≡ entry_in k terms column
  zero_entry [] column = ⊎_elim (λ same. rw same refl) (λ other. rw other refl) (cases_Bool (eqb k column))
  zero_entry (t ∷ terms) column = refl

  -- the printed terms are those of the form
  pub printed_are : (form : List ℚ) → k ≤ length form → AreTermsOf k (with_constant k form) (printed_terms k form)
  printed_are form long =
      let first : length (take k form) ≡ k = length-take-le k form long in
      let constant = entry_of form k in
      let terms = variable_terms 0 (take k form) ++ constant_terms constant in
      record {
        some = zero_long terms;
        over = zero_over terms (over 0 (take k form) (constant_terms constant) (omega arith) (constant_over constant));
        once = zero_once terms (once 0 (take k form) (constant_terms constant) (omega arith) (constant_free constant) (constant_once constant));
        long = omega (arith, length-append (take k form) (constant ∷ []));
        entries = λ column within.
            ⊎_elim
            (λ low.
            let inside : column < length (take k form) = omega arith in
            let same : 0 + column ≡ column = omega arith in
            let there : entry_in k terms column ≡ get_or (take k form) column 0ℚ =
            subst (λ c. entry_in k terms c ≡ get_or (take k form) column 0ℚ) same
            (entry_inside 0 (take k form) (constant_terms constant) column inside (ap (entry_in k (constant_terms constant)) same ∙ constant_below constant column low)) in
            get_or-append (take k form) (constant ∷ []) 0ℚ column inside ∙ sym there ∙ sym (zero_entry terms column))
            (λ high.
            let last : column ≡ k = omega arith in
            ap (entry_of (with_constant k form)) last
            ∙ get_or_push (take k form) constant 0ℚ k first
            ∙ sym (constant_at constant)
            ∙ sym (entry_outside 0 (take k form) (constant_terms constant) k (λ i w e. absurd (omega arith)))
            ∙ sym (zero_entry terms k)
            ∙ ap (entry_in k (or_zero terms)) (sym last))
            (cases_lt column k);
      }

-- ---- what is printed
pub form_printed : (k : ℕ) (form : List ℚ) → k ≤ length form → SpellsForm k (with_constant k form) (shown (form_items k form))
form_printed k form long = (printed_terms k form, printed_are k form long, shown_terms (printed_terms k form))

fraction_printed : (q : ℚ) → SpellsSigned q (shown (fraction_items q))
fraction_printed q = (is_below q, numeral_of q, shown_closed (minus_before (is_below q) ++ numeral_tokens (numeral_of q)), sym (numeral_back q))

call_shown : (word : List ℕ) (a b : List Item) → shown (call_items word a b) ≡ call word (pair (shown a) (shown b))
call_shown word a b =
    ap (λ l. PlainWord word ∷ PlainSign LeftParen ∷ l)
    (shown-append (a ++ Shown (PlainSign Comma) ∷ Blank ∷ [] ++ b) (Shown (PlainSign RightParen) ∷ [])
    ∙ ap (λ l. l ++ PlainSign RightParen ∷ []) (shown-append (a ++ Shown (PlainSign Comma) ∷ Blank ∷ []) b ∙ ap (λ l. l ++ shown b) (shown-append a (Shown (PlainSign Comma) ∷ Blank ∷ []))))

-- the tokens of a printed formula spell it
pub formula_printed : (k : ℕ) (e : Formula) → HasColumnsFor k e → SpellsFormula k (with_constants k e) (shown (formula_items k e))
formula_printed k (Lin form) long = form_printed k form long
formula_printed k (Add a b) (la, lb) = (shown (formula_items k a), shown (formula_items k b), formula_printed k a la, formula_printed k b lb, call_shown (codes "add") (formula_items k a) (formula_items k b))
formula_printed k (Sub a b) (la, lb) = (shown (formula_items k a), shown (formula_items k b), formula_printed k a la, formula_printed k b lb, call_shown (codes "sub") (formula_items k a) (formula_items k b))
formula_printed k (Scale q a) la = (shown (fraction_items q), shown (formula_items k a), fraction_printed q, formula_printed k a la, call_shown (codes "scale") (fraction_items q) (formula_items k a))
formula_printed k (Min a b) (la, lb) = (shown (formula_items k a), shown (formula_items k b), formula_printed k a la, formula_printed k b lb, call_shown (codes "min") (formula_items k a) (formula_items k b))
formula_printed k (Max a b) (la, lb) = (shown (formula_items k a), shown (formula_items k b), formula_printed k a la, formula_printed k b lb, call_shown (codes "max") (formula_items k a) (formula_items k b))
