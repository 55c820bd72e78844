-- Column by column: the variables of a form, and its terms on copies.
use Rattle.std.proofs.Common.{◌≡◌, ◌≢◌, ℕ, suc, cond, if◌then◌else◌, not, ◌+◌, ◌<◌, ◌≤◌, List, [], ◌∷◌, ◌++◌, length, drop, drop-cons, get_or, sym, ◌∙◌, ap, ap₂, subst, arith, append_assoc, append-nil, length-drop, add-one}
use Rattle.std.specs.List.{zip}
use Rattle.std.proofs.lemmas.List.{nil_from_length}
use Rattle.crn_fraction.proofs.Products.{is_zero_ℚ-other, is_zero_ℚ-zero}
use Rattle.crn_fraction.specs.Rational.{ℚ, 0ℚ}
use Rattle.crn_gates.specs.Terms.{nonzero}
use Rattle.crn_direct.specs.Layout.{variables_from, uses_of}

module _ (form : List ℚ) (i : ℕ) (q : ℚ) (l : i < length form) (at_i : q ≡ get_or form i 0ℚ) where
  -- the coefficients from i on
  here : drop i form ≡ q ∷ drop (i + 1) form
  here = rw add-one (drop-cons form i 0ℚ l ∙ ap (λ v. v ∷ drop (suc i) form) (sym at_i))

  -- ---- variables

  -- a variable whose coefficient is 0 is left out
  pub variables_stay : (now all : List ℕ) → q ≡ 0ℚ → now ++ variables_from (i + 1) (drop i form) ≡ all → now ++ variables_from (i + 1 + 1) (drop (i + 1) form) ≡ all
  variables_stay now all e h =
      let next : i + 1 + 1 ≡ suc (i + 1) = omega arith in
      ap (λ v. now ++ variables_from v (drop (i + 1) form)) next
      ∙ ap (λ b. now ++ (if b then variables_from (suc (i + 1)) (drop (i + 1) form) else (i + 1) ∷ variables_from (suc (i + 1)) (drop (i + 1) form))) (sym (is_zero_ℚ-zero q e))
      ∙ ap (λ qs. now ++ variables_from (i + 1) qs) (sym here) ∙ h

  -- and one whose coefficient is not comes next
  pub variables_step : (now later all : List ℕ) → q ≢ 0ℚ → later ≡ now ++ (i + 1) ∷ [] → now ++ variables_from (i + 1) (drop i form) ≡ all →
      later ++ variables_from (i + 1 + 1) (drop (i + 1) form) ≡ all
  variables_step now later all e pushed h =
      let next : i + 1 + 1 ≡ suc (i + 1) = omega arith in
      ap (λ v. v ++ variables_from (i + 1 + 1) (drop (i + 1) form)) pushed
      ∙ append_assoc now ((i + 1) ∷ []) _
      ∙ ap (λ v. now ++ ((i + 1) ∷ variables_from v (drop (i + 1) form))) next
      ∙ ap (λ b. now ++ (if b then variables_from (suc (i + 1)) (drop (i + 1) form) else (i + 1) ∷ variables_from (suc (i + 1)) (drop (i + 1) form))) (sym (is_zero_ℚ-other q e))
      ∙ ap (λ qs. now ++ variables_from (i + 1) qs) (sym here) ∙ h

  -- ---- terms

  -- the nonzero coefficients from i on
  nonzero_none : q ≡ 0ℚ → nonzero (drop i form) ≡ nonzero (drop (i + 1) form)
  nonzero_none e = ap nonzero here ∙ ap (λ b. cond (not b) (q ∷ nonzero (drop (i + 1) form)) (nonzero (drop (i + 1) form))) (is_zero_ℚ-zero q e)

  nonzero_here : q ≢ 0ℚ → nonzero (drop i form) ≡ q ∷ nonzero (drop (i + 1) form)
  nonzero_here e = ap nonzero here ∙ ap (λ b. cond (not b) (q ∷ nonzero (drop (i + 1) form)) (nonzero (drop (i + 1) form))) (is_zero_ℚ-other q e)

  -- there is a copy for the next of them
  pub copy_left : (copies : List ℕ) → q ≢ 0ℚ → length (nonzero (drop i form)) ≤ length copies → length copies ≡ 0 → ⊥
  copy_left copies e enough none = omega (arith, enough, none, ap length (nonzero_here e))

-- what is left: the terms so far and those of the coefficients from i on, the copies after them, and enough of these
pub record AreLeft (form : List ℚ) (i : ℕ) (terms all : List (ℚ × ℕ)) (copies rest : List ℕ) : Type 0 where
  pub terms_are : terms ++ zip (nonzero (drop i form)) copies ≡ all
  pub rest_is : drop (length (nonzero (drop i form))) copies ≡ rest
  pub enough : length (nonzero (drop i form)) ≤ length copies

module _ (form : List ℚ) (i : ℕ) (q : ℚ) (l : i < length form) (at_i : q ≡ get_or form i 0ℚ) (terms all : List (ℚ × ℕ)) (copies rest : List ℕ) (left : AreLeft form i terms all copies rest) where
  -- a coefficient that is 0 has no term
  pub terms_stay : q ≡ 0ℚ → AreLeft form (i + 1) terms all copies rest
  terms_stay e =
      let same = nonzero_none form i q l at_i e in
      record {
        terms_are = ap (λ qs. terms ++ zip qs copies) (sym same) ∙ left.terms_are;
        rest_is = ap (λ qs. drop (length qs) copies) (sym same) ∙ left.rest_is;
        enough = omega (arith, left.enough, ap length same);
      }

  -- one that is not takes the next copy
  pub terms_step : (c : ℕ) (later : List (ℚ × ℕ)) (copies' : List ℕ) → q ≢ 0ℚ → copies ≡ c ∷ copies' → later ≡ terms ++ (q, c) ∷ [] → AreLeft form (i + 1) later all copies' rest
  terms_step c later copies' e next pushed =
      let same = nonzero_here form i q l at_i e in
      let more = nonzero (drop (i + 1) form) in
      record {
        terms_are = ap (λ v. v ++ zip (nonzero (drop (i + 1) form)) copies') pushed ∙ append_assoc terms ((q, c) ∷ []) _
            ∙ ap₂ (λ qs cs. terms ++ zip qs cs) (sym same) (sym next) ∙ left.terms_are;
        rest_is = ap₂ (λ qs cs. drop (length qs) cs) (sym same) (sym next) ∙ left.rest_is;
        enough = omega (arith, left.enough, ap length same, ap length next);
      }

-- the same with equal lists
pub left_as : (form : List ℚ) (i : ℕ) (terms terms' all : List (ℚ × ℕ)) (copies copies' rest : List ℕ) → terms' ≡ terms → copies' ≡ copies → AreLeft form i terms all copies rest → AreLeft form i terms' all copies' rest
left_as form i terms terms' all copies copies' rest e f left =
    subst (λ ts. AreLeft form i ts all copies' rest) (sym e) (subst (λ cs. AreLeft form i terms all cs rest) (sym f) left)

-- after the last column nothing is left
pub past : {X : Type 0} (xs : List X) (i : ℕ) → length xs ≤ i → drop i xs ≡ []
past {X} xs i l = nil_from_length (drop i xs) (omega (arith, length-drop i xs))

pub variables_end : (form : List ℚ) (i v : ℕ) (now all : List ℕ) → length form ≤ i → now ++ variables_from v (drop i form) ≡ all → now ≡ all
variables_end form i v now all l h = sym (append-nil now) ∙ ap (λ qs. now ++ variables_from v qs) (sym (past form i l)) ∙ h

pub terms_end : (form : List ℚ) (i : ℕ) (terms all : List (ℚ × ℕ)) (copies rest : List ℕ) → length form ≤ i → AreLeft form i terms all copies rest → (terms ≡ all) × (copies ≡ rest)
terms_end form i terms all copies rest l left = (
  sym (append-nil terms) ∙ ap (λ qs. terms ++ zip (nonzero qs) copies) (sym (past form i l)) ∙ left.terms_are,
  ap (λ qs. drop (length (nonzero qs)) copies) (sym (past form i l)) ∙ left.rest_is,
)

-- ---- forms

-- one form more
pub uses_more : (forms : List (List ℚ)) (i : ℕ) (form : List ℚ) (now later all : List ℕ) → i < length forms → form ≡ get_or forms i form →
    now ++ uses_of (drop i forms) ≡ all → later ≡ now ++ variables_from 1 form → later ++ uses_of (drop (i + 1) forms) ≡ all
uses_more forms i form now later all l at_i h more =
    ap (λ v. v ++ uses_of (drop (i + 1) forms)) more
    ∙ append_assoc now (variables_from 1 form) _
    ∙ ap (λ fs. now ++ uses_of fs) (sym here) ∙ h
  where
    here : drop i forms ≡ form ∷ drop (i + 1) forms
    here = rw add-one (drop-cons forms i form l ∙ ap (λ v. v ∷ drop (suc i) forms) (sym at_i))
