-- A printed form without negative coefficients and without a constant spells that form.
use Rattle.std.proofs.Common.{◌≡◌, inl, inr, ℕ, suc, ◌+◌, true, false, pos, negsuc, ℤ, List, [], ◌∷◌, ◌++◌, length, take, refl, sym, ap, ap₂, ◌∙◌, subst, ⊎_elim, arith, take_all, take_at, append-nil}
use Rattle.std.proofs.lemmas.Bool.{cases_Bool}
use Rattle.std.proofs.lemmas.List.{length-take-le, get_or_past}
use Rattle.std.specs.Prelude.{All, replicate, int_lt}
use Rattle.crn_token.specs.Printed.{shown}
use Rattle.crn_fraction.specs.Rational.{ℚ, 0ℚ, is_zero_ℚ, ◌≤ℚ◌}
use Rattle.crn_fraction.proofs.Products.{is_zero_ℚ_cases}
use Rattle.crn_linear.specs.Forms.{entry_of}
use Rattle.crn_formula.proofs.Numbers.{nonneg_test}
use Rattle.crn_form_text.specs.Grammar.{Signed, ArePlain, IsPlainTerm, SpellsPlain}
use Rattle.crn_form_text.specs.Printing.{is_negative, is_below, has_size_1, variable_term, variable_terms, constant_terms, or_zero, printed_terms, terms_items, form_items, with_constant}
use Rattle.crn_form_text.proofs.PrintLaws.{printed_are, shown_terms}

not_below : (n : ℤ) → int_lt n (pos 0) ≡ false → is_negative n ≡ false
not_below (pos n) e = refl
not_below (negsuc n) e = let wrong : true ≡ false = e in cc

nonnegative : (q : ℚ) → 0ℚ ≤ℚ q → is_below q ≡ false
nonnegative q low = not_below q.num ((nonneg_test q).1 low)

plain_variable : (column : ℕ) (q : ℚ) → IsPlainTerm (variable_term column q).term
plain_variable column q = ⊎_elim (λ one. rw one tt) (λ more. rw more tt) (cases_Bool (has_size_1 q))

plain_variables : (c : ℕ) (qs : List ℚ) → All (λ q. 0ℚ ≤ℚ q) qs → ArePlain (variable_terms c qs)
plain_variables c [] low = tt
plain_variables c (q ∷ qs) low =
    let more = plain_variables (c + 1) qs (λ i d within. low (suc i) d (omega (arith, within))) in
    ⊎_elim (λ none. rw none more) (λ some. rw some (nonnegative q (low 0 q (omega arith)), plain_variable c q, more)) (cases_Bool (is_zero_ℚ q))

-- where no term is printed, each coefficient is 0
abbrev IsZero : List Signed → List ℚ → Type 0
IsZero [] qs = qs ≡ replicate (length qs) 0ℚ
IsZero (t ∷ terms) qs = Unit {0}

zeros_alone : (c : ℕ) (qs : List ℚ) → IsZero (variable_terms c qs) qs
zeros_alone c [] = refl
zeros_alone c (q ∷ qs) =
    ⊎_elim
    (λ none. rw none.1 (zero_more (variable_terms (c + 1) qs) none.0 (zeros_alone (c + 1) qs)))
    (λ some. rw some.1 tt)
    (is_zero_ℚ_cases q)
  where
    zero_more : (terms : List Signed) → q ≡ 0ℚ → IsZero terms qs → IsZero terms (q ∷ qs)
    zero_more [] is rest = ap₂ (λ p ps. p ∷ ps) is rest
    zero_more (t ∷ terms) is rest = tt

no_constant : (k : ℕ) (form : List ℚ) → length form ≡ k → constant_terms (entry_of form k) ≡ []
no_constant k form long =
    let past : entry_of form k ≡ 0ℚ = get_or_past form k 0ℚ (omega (arith, long)) in
    ⊎_elim (λ zero. rw zero.1 refl) (λ some. absurd (some.0 past)) (is_zero_ℚ_cases (entry_of form k))

pub plain_printed : (k : ℕ) (form : List ℚ) → length form ≡ k → All (λ c. 0ℚ ≤ℚ c) form → SpellsPlain k form (shown (form_items k form))
plain_printed k form long low = go (variable_terms 0 (take k form)) terms refl
  where
    all : take k form ≡ form
    all = take_all k form (omega (arith, long))

    terms : variable_terms 0 (take k form) ++ constant_terms (entry_of form k) ≡ variable_terms 0 (take k form)
    terms = ap (λ l. variable_terms 0 (take k form) ++ l) (no_constant k form long) ∙ append-nil (variable_terms 0 (take k form))

    front : form ≡ take k (with_constant k form)
    front = sym (take_at (take k form) (entry_of form k ∷ []) k (length-take-le k form (omega (arith, long))) ∙ all)

    plain : ArePlain (variable_terms 0 (take k form))
    plain = plain_variables 0 (take k form) (subst (All (λ c. 0ℚ ≤ℚ c)) (sym all) low)

    go : (ts : List Signed) → variable_terms 0 (take k form) ++ constant_terms (entry_of form k) ≡ ts → variable_terms 0 (take k form) ≡ ts → SpellsPlain k form (shown (form_items k form))
    go [] is same =
        inl (ap (λ l. shown (terms_items (or_zero l))) is, form_zero same)
      where
        form_zero : variable_terms 0 (take k form) ≡ [] → form ≡ replicate k 0ℚ
        form_zero same =
            let zeros : take k form ≡ replicate (length (take k form)) 0ℚ = subst (λ l. IsZero l (take k form)) same (zeros_alone 0 (take k form)) in
            sym all ∙ zeros ∙ ap (λ n. replicate n 0ℚ) (ap length all ∙ long)
    go (t ∷ ts) is same =
        inr (
          with_constant k form,
          printed_terms k form,
          printed_are k form (omega (arith, long)),
          subst ArePlain (sym (ap or_zero is)) (subst ArePlain same plain),
          shown_terms (printed_terms k form),
          front,
        )
