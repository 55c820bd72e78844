-- Terms that are put into their columns.
use Rattle.std.proofs.Common.{◌≡◌, ◌≢◌, ℕ, ◌<◌, ◌≤◌, cond, eqb, List, [], ◌∷◌, length, get_or, set, Option, Some, None, refl, sym, ap, ◌∙◌, subst, ⊎_elim, arith, eqb-true, get_or-set_same, get_or-set_other}
use Rattle.std.specs.Prelude.{unwrap_or}
use Rattle.std.specs.Option.{option_and_then}
use Rattle.std.proofs.lemmas.List.{length-set}
use Rattle.std.proofs.lemmas.Bool.{cases_Bool, eqb-false}
use Rattle.std.proofs.lemmas.Option.{none-some, same_Some}
use Rattle.crn_fraction.specs.Rational.{ℚ, 0ℚ}
use Rattle.crn_form_text.specs.Grammar.{Term, Variable, Multiple, Constant, Signed, column_of, coefficient, AreTermsOver, IsTermOver, IsFree, StandOnce, entry_in}
use Rattle.crn_form_text.specs.Reading.{put}

-- the terms are put one after another
abbrev pub puts : ℕ → List (Option ℚ) → List Signed → Option (List (Option ℚ))
puts k es [] = Some es
puts k es (t ∷ terms) = option_and_then (λ e. puts k e terms) (put es (column_of k t.term) (coefficient t))

-- a term is put where its column is free
pub put_free : (es : List (Option ℚ)) (column : ℕ) (q : ℚ) → get_or es column None ≡ None → put es column q ≡ Some (set es column (Some q))
put_free es column q e = rw e refl

pub put_is : (es fs : List (Option ℚ)) (column : ℕ) (q : ℚ) → put es column q ≡ Some fs → (get_or es column None ≡ None) × (fs ≡ set es column (Some q))
put_is es fs column q e = go (get_or es column None) refl
  where
    go : (o : Option ℚ) → get_or es column None ≡ o → (get_or es column None ≡ None) × (fs ≡ set es column (Some q))
    go None is = (is, sym (same_Some _ _ (sym (put_free es column q is) ∙ e)))
    go (Some p) is = let stuck : put es column q ≡ None = rw is refl in absurd (none-some fs (sym stuck ∙ e))

-- each term's column is free
abbrev pub AllFree : ℕ → List (Option ℚ) → List Signed → Type 0
AllFree k es [] = Unit {0}
AllFree k es (t ∷ terms) = (get_or es (column_of k t.term) None ≡ None) × AllFree k es terms

pub column_in : (k : ℕ) (t : Term) → k ≤ 8 → IsTermOver k t → column_of k t < 9
column_in k (Variable c) few over = omega arith
column_in k (Multiple n c) few over = omega arith
column_in k (Constant n) few over = omega arith

-- columns that were free stay so where another is filled
still_free : (k : ℕ) (es : List (Option ℚ)) (column : ℕ) (q : ℚ) (terms : List Signed) → IsFree k column terms → AllFree k es terms → AllFree k (set es column (Some q)) terms
still_free k es column q [] apart free = tt
still_free k es column q (t ∷ terms) (other, apart) (here, free) =
    (get_or-set_other es column (column_of k t.term) (Some q) None other ∙ here, still_free k es column q terms apart free)

-- terms with columns of their own, all of them free, can be put
pub can_put : (k : ℕ) (es : List (Option ℚ)) (terms : List Signed) → AllFree k es terms → StandOnce k terms → (fs : List (Option ℚ)) × (puts k es terms ≡ Some fs)
can_put k es [] free once = (es, refl)
can_put k es (t ∷ terms) (here, free) (apart, once) =
    let more = can_put k (set es (column_of k t.term) (Some (coefficient t))) terms (still_free k es (column_of k t.term) (coefficient t) terms apart free) once in
    (more.0, rw (put_free es (column_of k t.term) (coefficient t) here) more.1)

-- what stands in a column after the terms, if this stood there before
abbrev pub entry_or : ℕ → ℚ → List Signed → ℕ → ℚ
entry_or k d [] column = d
entry_or k d (t ∷ terms) column = cond (eqb (column_of k t.term) column) (coefficient t) (entry_or k d terms column)

pub entry_in-or : (k : ℕ) (terms : List Signed) (column : ℕ) → entry_or k 0ℚ terms column ≡ entry_in k terms column
entry_in-or k [] column = refl
entry_in-or k (t ∷ terms) column = ap (λ e. cond (eqb (column_of k t.term) column) (coefficient t) e) (entry_in-or k terms column)

entry_or-free : (k : ℕ) (d : ℚ) (terms : List Signed) (column : ℕ) → IsFree k column terms → entry_or k d terms column ≡ d
entry_or-free k d [] column apart = refl
entry_or-free k d (t ∷ terms) column (other, apart) =
    ⊎_elim
    (λ same. absurd (other (eqb-true _ _ same)))
    (λ not_same. rw not_same (entry_or-free k d terms column apart))
    (cases_Bool (eqb (column_of k t.term) column))

-- what is known where terms were put
pub record WerePut (k : ℕ) (es fs : List (Option ℚ)) (terms : List Signed) : Type 0 where
  pub free : AllFree k es terms
  pub once : StandOnce k terms
  pub long : length fs ≡ length es
  pub entries : (column : ℕ) → unwrap_or (get_or fs column None) 0ℚ ≡ entry_or k (unwrap_or (get_or es column None) 0ℚ) terms column

-- a filled column is no other term's
apart_from : (k : ℕ) (es : List (Option ℚ)) (column : ℕ) (q : ℚ) (terms : List Signed) → column < length es → AllFree k (set es column (Some q)) terms → IsFree k column terms × AllFree k es terms
apart_from k es column q [] within free = (tt, tt)
apart_from k es column q (t ∷ terms) within (here, free) =
    let rest = apart_from k es column q terms within free in
    let other : column_of k t.term ≢ column = λ same. none-some q (sym here ∙ ap (λ c. get_or (set es column (Some q)) c None) same ∙ get_or-set_same es column (Some q) None within) in
    ((other, rest.0), (sym (get_or-set_other es column (column_of k t.term) (Some q) None other) ∙ here, rest.1))

pub were_put : (k : ℕ) (es fs : List (Option ℚ)) (terms : List Signed) → k ≤ 8 → length es ≡ 9 → AreTermsOver k terms → puts k es terms ≡ Some fs → WerePut k es fs terms
were_put k es fs [] few nine over e = record {
  free = tt;
  once = tt;
  long = ap length (sym (same_Some _ _ e));
  entries = λ column. ap (λ l. unwrap_or (get_or l column None) 0ℚ) (sym (same_Some _ _ e));
}
were_put k es fs (t ∷ terms) few nine (here, over) e = go (put es (column_of k t.term) (coefficient t)) refl (λ es' nine' e'. were_put k es' fs terms few nine' over e')
  where
    c : ℕ
    c = column_of k t.term

    within : c < length es
    within = rw nine (column_in k t.term few here)

    done : (es' : List (Option ℚ)) → put es c (coefficient t) ≡ Some es' → WerePut k es' fs terms → WerePut k es fs (t ∷ terms)
    done es' put_e more =
        let is = put_is es es' c (coefficient t) put_e in
        let free' : AllFree k (set es c (Some (coefficient t))) terms = subst (λ l. AllFree k l terms) is.1 more.free in
        let parts = apart_from k es c (coefficient t) terms within free' in
        record {
          free = (is.0, parts.1);
          once = (parts.0, more.once);
          long = more.long ∙ ap length is.1 ∙ length-set es c (Some (coefficient t));
          entries = λ column.
              more.entries column
              ∙ ap (λ l. entry_or k (unwrap_or (get_or l column None) 0ℚ) terms column) is.1
              ∙ ⊎_elim
              (λ same. let at : c ≡ column = eqb-true _ _ same in
              rw same (subst (λ d. entry_or k (unwrap_or (get_or (set es c (Some (coefficient t))) d None) 0ℚ) terms d ≡ coefficient t) at
              (ap (λ o. entry_or k (unwrap_or o 0ℚ) terms c) (get_or-set_same es c (Some (coefficient t)) None within) ∙ entry_or-free k (coefficient t) terms c parts.0)))
              (λ not_same. let other : column ≢ c = λ same. eqb-false c column not_same (sym same) in
              rw not_same (ap (λ o. entry_or k (unwrap_or o 0ℚ) terms column) (get_or-set_other es c column (Some (coefficient t)) None other)))
              (cases_Bool (eqb c column));
        }

    go : (o : Option (List (Option ℚ))) → put es c (coefficient t) ≡ o → ((es' : List (Option ℚ)) → length es' ≡ 9 → puts k es' terms ≡ Some fs → WerePut k es' fs terms) → WerePut k es fs (t ∷ terms)
    go None put_e again = absurd (none-some fs (ap (option_and_then (λ l. puts k l terms)) (sym put_e) ∙ e))
    go (Some es') put_e again =
        let is = put_is es es' c (coefficient t) put_e in
        done es' put_e (again es' (ap length is.1 ∙ length-set es c (Some (coefficient t)) ∙ nine) (ap (option_and_then (λ l. puts k l terms)) (sym put_e) ∙ e))
