-- The longest form without negative coefficients is found.
use Rattle.std.proofs.Common.{◌≡◌, ◌⊎◌, ℕ, zero, suc, ◌+◌, ◌-◌, ◌<◌, ◌≤◌, pos, inl, inr, List, [], ◌∷◌, length, map, take, drop, Option, Some, None, refl, sym, ap, ◌∙◌, subst, ⊎_elim, arith, length-drop}
use Rattle.std.specs.Prelude.{replicate, unwrap_or, slice_range}
use Rattle.std.specs.Option.{option_and_then, option_map_or}
use Rattle.std.proofs.lemmas.List.{length-take-le, length-map, take-map, take-replicate}
use Rattle.std.proofs.lemmas.Option.{none-some, same_Some}
use Rattle.crn_grammar.specs.Table.{Table, after}
use Rattle.crn_token.specs.Plain.{Plain, PlainNumber}
use Rattle.crn_fraction.specs.Rational.{ℚ, 0ℚ}
use Rattle.crn_form_text.specs.declared.mark.Mark.{Mark}
use Rattle.crn_form_text.specs.declared.mark.Mark.TheVariants as mark
use Rattle.crn_form_text.specs.declared.form.Place.{Place}
use Rattle.crn_form_text.specs.declared.form.Place.TheVariants as place
use Rattle.crn_form_text.specs.Grammar.{SpellsPlain, IsLongestPlain, BeginsNoPlain}
use Rattle.crn_form_text.specs.Reading.{FormState, at_place, no_entries, form_with, plain_whole, plain_forms, whole_of, or_before, longest_from, zero_at, plain_form_at, mark_of}
use Rattle.crn_form_text.proofs.Marks.{IsMarked, marked}
use Rattle.crn_form_text.proofs.FormSpells.{read_terms, terms_put}
use Rattle.crn_form_text.proofs.PlainLaws.{plain_run, plain_read}

-- ---- the longest text of a table
module _ {S L F : Type 0} (table : Table S L F (Unit {0})) where
  whole_from : S → List L → Option F
  whole_from s ts = option_and_then table.whole (after table s ts)

  abbrev NoneAfter : S → List L → ℕ → Type 0
  NoneAfter s ts m = (j : ℕ) → m < j → j ≤ length ts → option_and_then table.whole (after table s (take j ts)) ≡ None

  pub record Longest (s : S) (ts : List L) (count : ℕ) (r : Option (F × ℕ)) : Type 0 where
    pub m : ℕ
    pub value : F
    pub some : 0 < m
    pub within : m ≤ length ts
    pub is : option_and_then table.whole (after table s (take m ts)) ≡ Some value
    pub none_after : (j : ℕ) → m < j → j ≤ length ts → option_and_then table.whole (after table s (take j ts)) ≡ None
    pub found : r ≡ Some (value, count + m)

  pub record NoLonger (s : S) (ts : List L) (before r : Option (F × ℕ)) : Type 0 where
    pub none_after : (j : ℕ) → 0 < j → j ≤ length ts → option_and_then table.whole (after table s (take j ts)) ≡ None
    pub found : r ≡ before

  pub longest_is : (count : ℕ) (before : Option (F × ℕ)) (s : S) (ts : List L) → Longest s ts count (longest_from table count before s ts) ⊎ NoLonger s ts before (longest_from table count before s ts)
  longest_is count before s [] = inr (record { none_after = λ j some within. absurd (omega arith); found = refl })
  longest_is count before s (t ∷ ts) = go (table.next s t) refl (λ u more. longest_is (count + 1) more u ts)
    where
      Answer : Option (F × ℕ) → Type 0
      Answer r = Longest s (t ∷ ts) count r ⊎ NoLonger s (t ∷ ts) before r

      step_none : (j : ℕ) → 0 < j → table.next s t ≡ None → option_and_then table.whole (after table s (take j (t ∷ ts))) ≡ None
      step_none zero some e = absurd (omega arith)
      step_none (suc j) some e = rw e refl

      step_some : (u : S) (j : ℕ) → table.next s t ≡ Some u → option_and_then table.whole (after table s (take (suc j) (t ∷ ts))) ≡ option_and_then table.whole (after table u (take j ts))
      step_some u j e = rw e refl

      later : (u : S) (m : ℕ) → table.next s t ≡ Some u → NoneAfter u ts m → NoneAfter s (t ∷ ts) (suc m)
      later u m e none zero some within = absurd (omega arith)
      later u m e none (suc j) some within = step_some u j e ∙ none j (omega arith) (omega arith)

      first : (u : S) → table.next s t ≡ Some u → NoneAfter u ts 0 → (o : Option F) → table.whole u ≡ o → (r : Option (F × ℕ)) → r ≡ or_before (count + 1) before o
          → Longest s (t ∷ ts) count r ⊎ NoLonger s (t ∷ ts) before r
      first u e none (Some f) whole r is = inl (
          record {
            m = 1;
            value = f;
            some = omega arith;
            within = omega arith;
            is = step_some u 0 e ∙ whole;
            none_after = later u 0 e none;
            found = is;
          })
      first u e none None whole r is = inr (record { none_after = none_at; found = is })
        where
          none_at : (j : ℕ) → 0 < j → j ≤ length (t ∷ ts) → option_and_then table.whole (after table s (take j (t ∷ ts))) ≡ None
          none_at zero some within = absurd (omega arith)
          none_at (suc zero) some within = step_some u 0 e ∙ whole
          none_at (suc (suc j)) some within = step_some u (suc j) e ∙ none (suc j) (omega arith) (omega arith)

      go : (o : Option S) → table.next s t ≡ o → ((u : S) (more : Option (F × ℕ)) → Longest u ts (count + 1) (longest_from table (count + 1) more u ts) ⊎ NoLonger u ts more (longest_from table (count + 1) more u ts))
          → Longest s (t ∷ ts) count (option_map_or (λ u. longest_from table (count + 1) (or_before (count + 1) before (table.whole u)) u ts) o before)
          ⊎ NoLonger s (t ∷ ts) before (option_map_or (λ u. longest_from table (count + 1) (or_before (count + 1) before (table.whole u)) u ts) o before)
      go None e again = inr (record { none_after = λ j some within. step_none j some e; found = refl })
      go (Some u) e again =
          let r : Option (F × ℕ) = longest_from table (count + 1) (or_before (count + 1) before (table.whole u)) u ts in
          ⊎_elim
          (λ long. inl (
          record {
            m = suc long.m;
            value = long.value;
            some = omega arith;
            within = omega (arith, long.within);
            is = step_some u long.m e ∙ long.is;
            none_after = later u long.m e long.none_after;
            found = long.found ∙ ap (λ n. Some (long.value, n)) (add_one count long.m);
          }))
          (λ same. first u e same.none_after (table.whole u) refl r same.found)
          (again u (or_before (count + 1) before (table.whole u)))
        where
          add_one : (a b : ℕ) → a + 1 + b ≡ a + suc b
          add_one a b = omega arith

-- ---- forms without negative coefficients
take_of_take : (n m : ℕ) (xs : List ℚ) → n ≤ m → take n (take m xs) ≡ take n xs
take_of_take zero m xs less = refl
take_of_take (suc n) zero xs less = absurd (omega arith)
take_of_take (suc n) (suc m) [] less = refl
take_of_take (suc n) (suc m) (x ∷ xs) less = ap (λ l. x ∷ l) (take_of_take n m xs (omega arith))

narrow_with : (k : ℕ) (es : List (Option ℚ)) → form_with k es ≡ take k (form_with (k + 1) es)
narrow_with k es = sym (take_of_take k (k + 1) (map (λ e. unwrap_or e 0ℚ) es) (omega arith))

plain_spelled : (k : ℕ) (form : List ℚ) (ts : List Plain) → k ≤ 8 → whole_of (plain_forms k) (map mark_of ts) ≡ Some form → SpellsPlain k form ts
plain_spelled k form ts few e = at_end (after (plain_forms k) (plain_forms k).start (map mark_of ts)) refl
  where
    with_place : (p : Place) (es : List (Option ℚ)) → after (plain_forms k) (plain_forms k).start (map mark_of ts) ≡ Some (at_place p es) → plain_whole k p es ≡ Some form → SpellsPlain k form ts
    with_place place.Begin es there whole = absurd (none-some form whole)
    with_place (place.Term negative c) es there whole = absurd (none-some form whole)
    with_place (place.Named v) es there whole = absurd (none-some form whole)
    with_place place.Ended es there whole =
        let read = plain_read k ts es there in
        let terms = read_terms k es read.terms few read.some read.over read.puts_es in
        inr (form_with (k + 1) es, read.terms, terms, read.plain, read.tokens, sym (same_Some _ _ whole) ∙ narrow_with k es)

    at_end : (o : Option FormState) → after (plain_forms k) (plain_forms k).start (map mark_of ts) ≡ o → SpellsPlain k form ts
    at_end None there = absurd (none-some form (ap (option_and_then (plain_forms k).whole) (sym there) ∙ e))
    at_end (Some u) there = with_place u.place u.entries there (ap (option_and_then (plain_forms k).whole) (sym there) ∙ e)

pub spelled_plain : (k : ℕ) (form : List ℚ) (ts : List Plain) → k ≤ 8 → SpellsPlain k form ts → (ts ≡ PlainNumber (pos 0) ∷ []) ⊎ (whole_of (plain_forms k) (map mark_of ts) ≡ Some form)
spelled_plain k form ts few spells =
    ⊎_elim
    (λ zeros. inl zeros.0)
    (λ (affine, terms, are, plain, is, form_is).
    let put = terms_put k affine terms few are in
    let run = plain_run k terms put.0 are.some are.over plain put.1 in
    inr (ap (λ l. whole_of (plain_forms k) (map mark_of l)) is ∙ ap (option_and_then (plain_forms k).whole) run ∙ ap Some (narrow_with k put.0 ∙ ap (take k) (sym put.2) ∙ sym form_is)))
    spells

-- the zero form is one of them
zero_is : (k : ℕ) → k ≤ 8 → form_with k no_entries ≡ replicate k 0ℚ
zero_is k few = take-replicate k 9 0ℚ (omega arith)

-- what the answer says of the tokens from a place on
abbrev pub IsFound : ℕ → List Plain → Option (List ℚ × ℕ) → Type 0
IsFound k ts None = (m : ℕ) (f : List ℚ) → m ≤ length ts → SpellsPlain k f (take m ts) → ⊥
IsFound k ts (Some p) = (p.1 ≤ length ts) × SpellsPlain k p.0 (take p.1 ts) × ((m : ℕ) (f : List ℚ) → p.1 < m → m ≤ length ts → SpellsPlain k f (take m ts) → ⊥)

abbrev runs_whole : ℕ → List Plain → ℕ → Option (List ℚ)
runs_whole k ts m = whole_of (plain_forms k) (take m (map mark_of ts))

taken : (k : ℕ) (ts : List Plain) (m : ℕ) → runs_whole k ts m ≡ whole_of (plain_forms k) (map mark_of (take m ts))
taken k ts m = ap (whole_of (plain_forms k)) (take-map mark_of m ts)

-- a longer text than one token is no number 0
not_zero : (ts : List Plain) (m : ℕ) → 1 < m → m ≤ length ts → take m ts ≡ PlainNumber (pos 0) ∷ [] → ⊥
not_zero ts m some within e = absurd (omega (arith, length-take-le m ts within, ap length e))

none_longer : (k : ℕ) (ts : List Plain) (n m : ℕ) (f : List ℚ) → k ≤ 8 → ((j : ℕ) → n < j → j ≤ length (map mark_of ts) → runs_whole k ts j ≡ None) → n < m → 1 < m → m ≤ length ts → SpellsPlain k f (take m ts) → ⊥
none_longer k ts n m f few none more some within spells =
    ⊎_elim
    (λ zeros. not_zero ts m some within zeros)
    (λ whole. none-some f (sym (none m more (omega (arith, length-map ts mark_of))) ∙ taken k ts m ∙ whole))
    (spelled_plain k f (take m ts) few spells)

long_found : (k : ℕ) (ts : List Plain) (r : Option (List ℚ × ℕ)) → k ≤ 8 → Longest (plain_forms k) (plain_forms k).start (map mark_of ts) 0 r → IsFound k ts r
long_found k ts r few long =
    let count : 0 + long.m ≡ long.m = omega arith in
    subst (IsFound k ts) (sym (long.found ∙ ap (λ n. Some (long.value, n)) count)) (
      omega (arith, long.within, length-map ts mark_of),
      plain_spelled k long.value (take long.m ts) few (sym (taken k ts long.m) ∙ long.is),
      λ m f more within spells. none_longer k ts long.m m f few long.none_after more (omega (arith, long.some)) within spells,
    )

-- the mark of the number 0 is its own
zero_token : (t : Plain) (m : Mark) → IsMarked m t → m ≡ mark.Number (pos zero) → t ≡ PlainNumber (pos zero)
zero_token t m is e = subst (λ n. IsMarked n t) e is

begins_zero : (ts : List Plain) (m : ℕ) → take m ts ≡ PlainNumber (pos 0) ∷ [] → (us : List Plain) × (ts ≡ PlainNumber (pos 0) ∷ us)
begins_zero [] zero e = absurd (cc e)
begins_zero [] (suc m) e = absurd (cc e)
begins_zero (t ∷ ts) zero e = absurd (cc e)
begins_zero (t ∷ ts) (suc m) e = let first : t ≡ PlainNumber (pos 0) = cc e in (ts, ap (λ u. u ∷ ts) first)

no_text : (k : ℕ) → runs_whole k [] 0 ≡ None
no_text k = refl

-- where no terms are found, the number 0 is, if it stands there
no_longer_found : (k : ℕ) (ts : List Plain) (r : Option (List ℚ × ℕ)) → k ≤ 8 → NoLonger (plain_forms k) (plain_forms k).start (map mark_of ts) (zero_at k (map mark_of ts)) r → IsFound k ts r
no_longer_found k ts r few same = subst (IsFound k ts) (sym same.found) (go ts same.none_after)
  where
    nothing : (ts : List Plain) → zero_at k (map mark_of ts) ≡ None → ((j : ℕ) → 0 < j → j ≤ length (map mark_of ts) → runs_whole k ts j ≡ None) → IsFound k ts None
    nothing ts stuck none zero f within spells =
        ⊎_elim (λ zeros. absurd (cc zeros)) (λ whole. none-some f whole) (spelled_plain k f [] few spells)
    nothing ts stuck none (suc m) f within spells =
        ⊎_elim
        (λ zeros. let (us, is) = begins_zero ts (suc m) zeros in
        none-some _ (sym stuck ∙ ap (λ l. zero_at k (map mark_of l)) is))
        (λ whole. none-some f (sym (none (suc m) (omega arith) (omega (arith, length-map ts mark_of))) ∙ taken k ts (suc m) ∙ whole))
        (spelled_plain k f (take (suc m) ts) few spells)

    zeros : (t : Plain) (us : List Plain) → t ≡ PlainNumber (pos zero) → ((j : ℕ) → 0 < j → j ≤ length (map mark_of (t ∷ us)) → runs_whole k (t ∷ us) j ≡ None) → IsFound k (t ∷ us) (Some (form_with k no_entries, 1))
    zeros t us is none =
        (omega arith, inl (ap (λ u. u ∷ []) is, zero_is k few), λ m f more within spells. none_longer k (t ∷ us) 1 m f few (λ j above. none j (omega arith)) more more within spells)

    by_mark : (t : Plain) (us : List Plain) (m : Mark) → mark_of t ≡ m → ((j : ℕ) → 0 < j → j ≤ length (map mark_of (t ∷ us)) → runs_whole k (t ∷ us) j ≡ None) → IsFound k (t ∷ us) (zero_at k (m ∷ map mark_of us))
    by_mark t us (mark.Number (pos zero)) e none = zeros t us (zero_token t (mark_of t) (marked t) e) none
    by_mark t us m e none = nothing (t ∷ us) (ap (λ n. zero_at k (n ∷ map mark_of us)) e) none

    go : (ts : List Plain) → ((j : ℕ) → 0 < j → j ≤ length (map mark_of ts) → runs_whole k ts j ≡ None) → IsFound k ts (zero_at k (map mark_of ts))
    go [] none = nothing [] refl none
    go (t ∷ us) none = by_mark t us (mark_of t) refl none

-- what is found is the longest
pub plain_found : (k : ℕ) (ts : List Plain) → k ≤ 8 → IsFound k ts (plain_form_at k ts)
plain_found k ts few =
    ⊎_elim (long_found k ts (plain_form_at k ts) few) (no_longer_found k ts (plain_form_at k ts) few)
    (longest_is (plain_forms k) 0 (zero_at k (map mark_of ts)) (plain_forms k).start (map mark_of ts))

-- ---- from a place on
slice_from : (ts : List Plain) (from n : ℕ) → slice_range ts from (from + n) ≡ take n (drop from ts)
slice_from ts from n = let e : from + n - from ≡ n = omega arith in ap (λ m. take m (drop from ts)) e

pub longest_at : (k : ℕ) (ts : List Plain) (from : ℕ) (form : List ℚ) (n : ℕ) → k ≤ 8 → from ≤ length ts → plain_form_at k (drop from ts) ≡ Some (form, n) → IsLongestPlain k ts from form (from + n)
longest_at k ts from form n few place e =
    let found : IsFound k (drop from ts) (Some (form, n)) = subst (IsFound k (drop from ts)) e (plain_found k (drop from ts) few) in
    record {
      within = omega (arith, found.0, length-drop from ts);
      spells = subst (SpellsPlain k form) (sym (slice_from ts from n)) found.1;
      longest = λ m f more within spells. found.2 (m - from) f (omega arith) (omega (arith, length-drop from ts)) spells;
    }

pub none_at : (k : ℕ) (ts : List Plain) (from : ℕ) → k ≤ 8 → plain_form_at k (drop from ts) ≡ None → BeginsNoPlain k ts from
none_at k ts from few e m f within spells =
    let found : IsFound k (drop from ts) None = subst (IsFound k (drop from ts)) e (plain_found k (drop from ts) few) in
    found (m - from) f (omega (arith, length-drop from ts)) spells
