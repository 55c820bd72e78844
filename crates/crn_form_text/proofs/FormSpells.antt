-- The form that is read is the one that the tokens spell, and there is no other.
use Rattle.std.proofs.Common.{◌≡◌, ℕ, zero, suc, ◌+◌, ◌<◌, ◌≤◌, List, [], ◌∷◌, length, map, get_or, Option, Some, None, refl, sym, ap, ◌∙◌, subst, arith}
use Rattle.std.specs.Prelude.{unwrap_or, replicate}
use Rattle.std.specs.Option.{option_and_then, option_map}
use Rattle.std.proofs.lemmas.List.{ext_get_or, get_or-take, length-take-le, length-map}
use Rattle.std.proofs.Math.ListN.{get_or-map}
use Rattle.std.proofs.lemmas.Option.{none-some, same_Some}
use Rattle.crn_grammar.specs.Table.{after}
use Rattle.crn_token.specs.Plain.{Plain}
use Rattle.crn_fraction.specs.Rational.{ℚ, 0ℚ}
use Rattle.crn_form_text.specs.Grammar.{Signed, column_of, AreTermsOver, entry_in, AreTermsOf, SpellsForm}
use Rattle.crn_form_text.specs.Reading.{FormState, closed, no_entries, form_with, forms, mark_of, form_of}
use Rattle.crn_form_text.proofs.Puts.{puts, AllFree, can_put, WerePut, were_put, entry_or, entry_in-or}
use Rattle.crn_form_text.proofs.FormLaws.{form_run, form_read}

abbrev nones : ℕ → List (Option ℚ)
nones n = replicate n None

none_entry : (n c : ℕ) → get_or (nones n) c None ≡ None
none_entry zero c = refl
none_entry (suc n) zero = refl
none_entry (suc n) (suc c) = none_entry n c

all_free : (k : ℕ) (terms : List Signed) → AllFree k no_entries terms
all_free k [] = tt
all_free k (t ∷ terms) = (none_entry 9 (column_of k t.term), all_free k terms)

-- what stands in a column of the form
entry_with : (n c : ℕ) (es : List (Option ℚ)) → c < n → get_or (form_with n es) c 0ℚ ≡ unwrap_or (get_or es c None) 0ℚ
entry_with n c es within = get_or-take n (map (λ e. unwrap_or e 0ℚ) es) c 0ℚ within ∙ get_or-map (λ e. unwrap_or e 0ℚ) es c None

put_entry : (k : ℕ) (es : List (Option ℚ)) (terms : List Signed) (c : ℕ) → WerePut k no_entries es terms → unwrap_or (get_or es c None) 0ℚ ≡ entry_in k terms c
put_entry k es terms c put = put.entries c ∙ ap (λ o. entry_or k (unwrap_or o 0ℚ) terms c) (none_entry 9 c) ∙ entry_in-or k terms c

long_with : (n : ℕ) (es : List (Option ℚ)) → n ≤ 9 → length es ≡ 9 → length (form_with n es) ≡ n
long_with n es few nine = length-take-le n (map (λ e. unwrap_or e 0ℚ) es) (omega (arith, length-map es (λ e. unwrap_or e 0ℚ)))

-- terms that were read are those of the form
pub read_terms : (k : ℕ) (es : List (Option ℚ)) (terms : List Signed) → k ≤ 8 → 0 < length terms → AreTermsOver k terms → puts k no_entries terms ≡ Some es → AreTermsOf k (form_with (k + 1) es) terms
read_terms k es terms few some over e =
    let put = were_put k no_entries es terms few refl over e in
    record {
      some = some;
      over = over;
      once = put.once;
      long = long_with (k + 1) es (omega arith) put.long;
      entries = λ c within. entry_with (k + 1) c es (omega arith) ∙ put_entry k es terms c put;
    }

-- the terms of a form are put, and give the form
pub terms_put : (k : ℕ) (form : List ℚ) (terms : List Signed) → k ≤ 8 → AreTermsOf k form terms → (es : List (Option ℚ)) × (puts k no_entries terms ≡ Some es) × (form ≡ form_with (k + 1) es)
terms_put k form terms few are =
    let done = can_put k no_entries terms (all_free k terms) are.once in
    let es = done.0 in
    let put = were_put k no_entries es terms few refl are.over done.1 in (
      es,
      done.1,
      ext_get_or 0ℚ form (form_with (k + 1) es) (are.long ∙ sym (long_with (k + 1) es (omega arith) put.long))
          (λ c within. are.entries c (omega (arith, are.long)) ∙ sym (put_entry k es terms c put) ∙ sym (entry_with (k + 1) c es (omega (arith, are.long)))),
    )

-- a form that is read is spelled
pub form_spelled : (k : ℕ) (form : List ℚ) (tokens : List Plain) → k ≤ 8 → form_of k tokens ≡ Some form → SpellsForm k form tokens
form_spelled k form tokens few e = at_end (after (forms k) (forms k).start (map mark_of tokens)) refl
  where
    with_entries : (u : FormState) → after (forms k) (forms k).start (map mark_of tokens) ≡ Some u → (o : Option (List (Option ℚ))) → closed k u.place u.entries ≡ o → option_map (form_with (k + 1)) o ≡ Some form → SpellsForm k form tokens
    with_entries u there None ends is = absurd (none-some form is)
    with_entries u there (Some es) ends is =
        let read = form_read k tokens u es there ends in
        (read.terms, subst (λ f. AreTermsOf k f read.terms) (same_Some _ _ is) (read_terms k es read.terms few read.some read.over read.puts_es), read.tokens)

    at_end : (o : Option FormState) → after (forms k) (forms k).start (map mark_of tokens) ≡ o → SpellsForm k form tokens
    at_end None there = absurd (none-some form (ap (option_and_then (forms k).whole) (sym there) ∙ e))
    at_end (Some u) there = with_entries u there (closed k u.place u.entries) refl (ap (option_and_then (forms k).whole) (sym there) ∙ e)

-- a form that is spelled is read
pub spelled_form : (k : ℕ) (form : List ℚ) (tokens : List Plain) → k ≤ 8 → SpellsForm k form tokens → form_of k tokens ≡ Some form
spelled_form k form tokens few (terms, are, is) =
    let put = terms_put k form terms few are in
    let (u, there, ends) = form_run k terms put.0 are.some are.over put.1 in
    ap (form_of k) is ∙ ap (option_and_then (forms k).whole) there ∙ ap (option_map (form_with (k + 1))) ends ∙ ap Some (sym put.2)
