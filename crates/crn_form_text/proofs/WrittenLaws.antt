-- What is written of a form, term by term.
use Rattle.std.proofs.Common.{◌≡◌, ℕ, ◌+◌, ◌<◌, ◌≤◌, Bool, true, false, ◌&&◌, List, [], ◌∷◌, ◌++◌, length, take, refl, sym, ap, ap₂, ◌∙◌, subst, ⊎_elim, arith, append_assoc, append-nil, take_all, suc}
use Rattle.std.proofs.lemmas.Bool.{cases_Bool, cases_lt}
use Rattle.std.proofs.lemmas.List.{take_more, length-take-le}
use Rattle.std.proofs.lemmas.Fmt.{decimal_digit}
use Rattle.std.specs.Prelude.{codes}
use Rattle.std.proofs.Math.Bool.{and-false, and-true}
use Rattle.crn_token.specs.Printed.{spelled}
use Rattle.crn_token.proofs.Joins.{spelled-append}
use Rattle.crn_fraction.specs.Rational.{ℚ, 0ℚ, is_zero_ℚ}
use Rattle.crn_fraction.specs.Frac.{IsFrac}
use Rattle.crn_linear.specs.Forms.{entry_of}
use Rattle.crn_form_text.specs.Grammar.{Signed}
use Rattle.crn_form_text.specs.Printing.{variable_term, variable_terms, constant_term, constant_terms, or_zero, more_items, terms_items, form_items, AreFracs}
use Rattle.crn_form_text.specs.Written.{are_none, next_items, variable_items, constant_items}

-- ---- one term more
more_next : (ts : List Signed) (t : Signed) → more_items (ts ++ t ∷ []) ≡ more_items ts ++ next_items false t
more_next [] t = append-nil (next_items false t)
more_next (s ∷ ts) t = ap (λ l. next_items false s ++ l) (more_next ts t) ∙ sym (append_assoc (next_items false s) (more_items ts) (next_items false t))

terms_next : (ts : List Signed) (t : Signed) → terms_items (ts ++ t ∷ []) ≡ terms_items ts ++ next_items (are_none ts) t
terms_next [] t = append-nil (next_items true t)
terms_next (s ∷ ts) t = ap (λ l. next_items true s ++ l) (more_next ts t) ∙ sym (append_assoc (next_items true s) (more_items ts) (next_items false t))

some_now : (ts : List Signed) (t : Signed) → are_none (ts ++ t ∷ []) ≡ false
some_now [] t = refl
some_now (s ∷ ts) t = refl

-- ---- the terms of the variables
variables_next : (c : ℕ) (qs : List ℚ) (q : ℚ) → variable_terms c (qs ++ q ∷ []) ≡ variable_terms c qs ++ variable_terms (c + length qs) (q ∷ [])
variables_next c [] q = let none : c ≡ c + 0 = omega arith in ap (λ d. variable_terms d (q ∷ [])) none
variables_next c (p ∷ qs) q =
    let place : c + 1 + length qs ≡ c + suc (length qs) = omega arith in
    let more : variable_terms (c + 1) (qs ++ q ∷ []) ≡ variable_terms (c + 1) qs ++ variable_terms (c + suc (length qs)) (q ∷ []) =
    variables_next (c + 1) qs q ∙ ap (λ d. variable_terms (c + 1) qs ++ variable_terms d (q ∷ [])) place in
    ⊎_elim (λ none. rw none more) (λ some. rw some (ap (λ l. variable_term c p ∷ l) more)) (cases_Bool (is_zero_ℚ p))

variable_step : (ts : List Signed) (column : ℕ) (q : ℚ) → terms_items (ts ++ variable_terms column (q ∷ [])) ≡ terms_items ts ++ variable_items (are_none ts) column q
variable_step ts column q =
    ⊎_elim
    (λ none. rw none (ap terms_items (append-nil ts) ∙ sym (append-nil (terms_items ts))))
    (λ some. rw some (terms_next ts (variable_term column q)))
    (cases_Bool (is_zero_ℚ q))

variable_first : (ts : List Signed) (column : ℕ) (q : ℚ) → are_none (ts ++ variable_terms column (q ∷ [])) ≡ (are_none ts && is_zero_ℚ q)
variable_first ts column q =
    ⊎_elim
    (λ none. rw none (ap are_none (append-nil ts) ∙ sym (and-true (are_none ts))))
    (λ some. rw some (some_now ts (variable_term column q) ∙ sym (and-false (are_none ts))))
    (cases_Bool (is_zero_ℚ q))

fracs_next : (qs : List ℚ) (q : ℚ) → AreFracs qs → IsFrac q → AreFracs (qs ++ q ∷ [])
fracs_next [] q fits here = (here, tt)
fracs_next (p ∷ qs) q (first, fits) here = (first, fracs_next qs q fits here)

-- the terms of the first coefficients are written
pub record AreWritten (old now : List ℕ) (none_yet : Bool) (qs : List ℚ) : Type 0 where
  pub text : now ≡ old ++ spelled (terms_items (variable_terms 0 qs))
  pub first : none_yet ≡ are_none (variable_terms 0 qs)
  pub fits : AreFracs qs

pub none_written : (old : List ℕ) → AreWritten old old true []
none_written old = record { text = sym (append-nil old); first = refl; fits = tt }

-- and one coefficient more
pub variables_step : (old before after : List ℕ) (first still : Bool) (form : List ℚ) (i : ℕ) → i < length form → AreWritten old before first (take i form)
    → after ≡ before ++ spelled (variable_items first i (entry_of form i)) → still ≡ (first && is_zero_ℚ (entry_of form i)) → IsFrac (entry_of form i)
    → AreWritten old after still (take (i + 1) form)
variables_step old before after first still form i within so_far next ends fits =
    let qs = take i form in
    let q = entry_of form i in
    let ts = variable_terms 0 qs in
    let long : 0 + length qs ≡ i = omega (arith, length-take-le i form (omega (arith, within))) in
    let terms : variable_terms 0 (qs ++ q ∷ []) ≡ ts ++ variable_terms i (q ∷ []) = variables_next 0 qs q ∙ ap (λ d. ts ++ variable_terms d (q ∷ [])) long in
    let items : spelled (terms_items (variable_terms 0 (qs ++ q ∷ []))) ≡ spelled (terms_items ts) ++ spelled (variable_items first i q) =
    ap (λ l. spelled (terms_items l)) terms ∙ ap spelled (variable_step ts i q ∙ ap (λ b. terms_items ts ++ variable_items b i q) (sym so_far.first)) ∙ spelled-append (terms_items ts) (variable_items first i q) in
    subst (AreWritten old after still) (sym (take_more form i 0ℚ within)) (record {
      text = next ∙ ap (λ l. l ++ spelled (variable_items first i q)) so_far.text ∙ append_assoc old _ _ ∙ ap (λ l. old ++ l) (sym items);
      first = ends ∙ ap (λ b. b && is_zero_ℚ q) so_far.first ∙ sym (ap are_none terms ∙ variable_first ts i q);
      fits = fracs_next qs q so_far.fits fits;
    })

-- all of them
pub all_written : (old now : List ℕ) (first : Bool) (form : List ℚ) (i k : ℕ) → i ≤ k → (i < k → length form ≤ i) → AreWritten old now first (take i form) → AreWritten old now first (take k form)
all_written old now first form i k low past done =
    ⊎_elim
    (λ less. subst (AreWritten old now first) (take_all i form (past less) ∙ sym (take_all k form (omega (arith, low, past less)))) done)
    (λ same. let is : i ≡ k = omega (arith, low, same) in subst (λ j. AreWritten old now first (take j form)) is done)
    (cases_lt i k)

-- ---- the constant
or_zero_next : (ts : List Signed) (t : Signed) → or_zero (ts ++ t ∷ []) ≡ ts ++ t ∷ []
or_zero_next [] t = refl
or_zero_next (s ∷ ts) t = refl

zero_alone : (ts : List Signed) (q : ℚ) → is_zero_ℚ q ≡ true → terms_items (or_zero ts) ≡ terms_items ts ++ constant_items (are_none ts) q
zero_alone [] q none = rw none refl
zero_alone (t ∷ ts) q none = rw none (sym (append-nil (terms_items (t ∷ ts))))

pub constant_step : (ts : List Signed) (q : ℚ) → terms_items (or_zero (ts ++ constant_terms q)) ≡ terms_items ts ++ constant_items (are_none ts) q
constant_step ts q =
    ⊎_elim
    (λ none. ap (λ l. terms_items (or_zero l)) (rw none (append-nil ts)) ∙ zero_alone ts q none)
    (λ some. rw some (ap terms_items (or_zero_next ts (constant_term q)) ∙ terms_next ts (constant_term q)))
    (cases_Bool (is_zero_ℚ q))

-- 0 where there is no term
pub zero_written : (none_yet : Bool) (q : ℚ) → none_yet ≡ true → is_zero_ℚ q ≡ true → codes "0" ≡ spelled (constant_items none_yet q)
zero_written none_yet q first none = rw (first, none) (sym (ap (λ l. l ++ []) (decimal_digit 0 (omega arith))))

-- a form, from its variables and its constant
pub form_written : (old before after : List ℕ) (none_yet : Bool) (k : ℕ) (form : List ℚ) (q : ℚ) → before ≡ old ++ spelled (terms_items (variable_terms 0 (take k form)))
    → none_yet ≡ are_none (variable_terms 0 (take k form)) → q ≡ entry_of form k → after ≡ before ++ spelled (constant_items none_yet q) → after ≡ old ++ spelled (form_items k form)
form_written old before after none_yet k form q so_far first is next =
    let ts = variable_terms 0 (take k form) in
    let constant : spelled (constant_items none_yet q) ≡ spelled (constant_items (are_none ts) (entry_of form k)) = ap₂ (λ b p. spelled (constant_items b p)) first is in
    next ∙ ap₂ (λ l m. l ++ m) so_far constant ∙ append_assoc old (spelled (terms_items ts)) _
    ∙ ap (λ l. old ++ l) (sym (ap spelled (constant_step ts (entry_of form k)) ∙ spelled-append (terms_items ts) (constant_items (are_none ts) (entry_of form k))))
