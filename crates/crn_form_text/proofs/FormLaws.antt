-- A form is read from exactly the tokens that spell it.
use Rattle.std.proofs.Common.{◌≡◌, ℕ, suc, ◌<◌, ltb, pos, Bool, true, false, cond, List, [], ◌∷◌, ◌++◌, length, map, Option, Some, None, IfSome, refl, sym, ap, ◌∙◌, subst, ⊎_elim, arith, append_assoc, append-nil, lt-ltb, ltb-true}
use Rattle.std.proofs.lemmas.List.{map-append}
use Rattle.std.specs.Prelude.{codes}
use Rattle.std.specs.Option.{option_and_then, option_map}
use Rattle.std.proofs.lemmas.Option.{none-some, same_Some}
use Rattle.crn_grammar.specs.Table.{after}
use Rattle.crn_grammar.proofs.TableLaws.{after_then}
use Rattle.crn_token.specs.Plain.{Plain, PlainWord}
use Rattle.crn_fraction.specs.Rational.{ℚ, whole, ◌/ℚ◌}
use Rattle.crn_form_text.specs.declared.mark.Mark.{Mark}
use Rattle.crn_form_text.specs.declared.mark.Mark.TheVariants as mark
use Rattle.crn_form_text.specs.declared.number.Count.{Count}
use Rattle.crn_form_text.specs.declared.number.Count.TheVariants as count
use Rattle.crn_form_text.specs.declared.form.Place.{Place}
use Rattle.crn_form_text.specs.declared.form.Place.TheVariants as place
use Rattle.crn_form_text.specs.Grammar.{Whole, Over, Term, Variable, Multiple, Constant, Signed, minus_before, sign_before, term_tokens, more_tokens, form_tokens, column_of, coefficient_of, coefficient, IsTermOver, AreTermsOver, signed}
use Rattle.crn_form_text.specs.Reading.{FormState, at_place, put, closed, term_next, in_term_next, name_next, form_next, no_entries, forms, mark_of, count_next, count_value, factor_of}
use Rattle.crn_form_text.proofs.Marks.{IsMarked, marked}
use Rattle.crn_form_text.proofs.Puts.{puts}
use Rattle.crn_form_text.proofs.NumberLaws.{WrittenCount, count_step, over_whole, value_written, IsFactor, factor_written}

-- ---- the text of a form is read

-- after these tokens the form may end, with these entries
abbrev pub RunsTo : ℕ → FormState → List Plain → List (Option ℚ) → Type 0
RunsTo k s tokens es = (u : FormState) × (after (forms k) s (map mark_of tokens) ≡ Some u) × (closed k u.place u.entries ≡ Some es)

named_run : (k : ℕ) (es fs : List (Option ℚ)) (column : ℕ) (q v : ℚ) → column < k → v ≡ q → put es column q ≡ Some fs
    → name_next k v es (mark.Number (pos (suc column))) ≡ Some (at_place place.Ended fs)
named_run k es fs column q v within same e = rw (same, lt-ltb column k within, e) refl

term_run : (k : ℕ) (es fs : List (Option ℚ)) (negative : Bool) (t : Term) → IsTermOver k t → put es (column_of k t) (coefficient_of negative t) ≡ Some fs
    → RunsTo k (at_place (place.Term negative count.Empty) es) (term_tokens t) fs
term_run k es fs negative (Variable column) within e = (at_place place.Ended fs, rw (named_run k es fs column _ _ within refl e) refl, refl)
term_run k es fs negative (Multiple (Whole n) column) within e = (at_place place.Ended fs, rw (named_run k es fs column _ _ within refl e) refl, refl)
term_run k es fs negative (Multiple (Over n x) column) within e = (at_place place.Ended fs, rw (named_run k es fs column _ _ within (over_whole negative n x) e) refl, refl)
term_run k es fs negative (Constant (Whole n)) within e = (at_place (place.Term negative (count.Whole (whole (signed negative n)))) es, refl, e)
term_run k es fs negative (Constant (Over n x)) within e =
    (at_place (place.Term negative (count.Quotient (whole (whole (signed negative n)).num /ℚ whole (pos (suc x))))) es, refl, ap (put es k) (over_whole negative n x) ∙ e)

-- the mark of the sign before a term
abbrev sign_mark : Bool → Mark
sign_mark true = mark.Minus
sign_mark false = mark.Plus

sign_next : (k : ℕ) (p : Place) (es fs : List (Option ℚ)) (negative : Bool) → closed k p es ≡ Some fs → form_next k p es (sign_mark negative) ≡ Some (at_place (place.Term negative count.Empty) fs)
sign_next k place.Begin es fs negative e = absurd (none-some fs e)
sign_next k (place.Term s c) es fs true e = ap (option_map (λ l. at_place (place.Term true count.Empty) l)) e
sign_next k (place.Term s c) es fs false e = ap (option_map (λ l. at_place (place.Term false count.Empty) l)) e
sign_next k (place.Named q) es fs negative e = absurd (none-some fs e)
sign_next k place.Ended es fs true e = ap (option_map (λ l. at_place (place.Term true count.Empty) l)) e
sign_next k place.Ended es fs false e = ap (option_map (λ l. at_place (place.Term false count.Empty) l)) e

-- some tokens, and then more
pub runs_on : (k : ℕ) (s u : FormState) (xs ys : List Plain) (es : List (Option ℚ)) → after (forms k) s (map mark_of xs) ≡ Some u → RunsTo k u ys es → RunsTo k s (xs ++ ys) es
runs_on k s u xs ys es there (v, more, ends) = (v, ap (after (forms k) s) (map-append mark_of xs ys) ∙ after_then (forms k) s u (map mark_of xs) (map mark_of ys) there ∙ more, ends)

more_run : (k : ℕ) (terms : List Signed) (s : FormState) (es fs : List (Option ℚ)) → closed k s.place s.entries ≡ Some es → AreTermsOver k terms → puts k es terms ≡ Some fs → RunsTo k s (more_tokens terms) fs
more_run k [] s es fs ends over e = (s, refl, ends ∙ e)
more_run k (t ∷ terms) s es fs ends (here, over) e = go (put es (column_of k t.term) (coefficient t)) refl (λ u gs ends' e'. more_run k terms u gs fs ends' over e')
  where
    signed_run : (negative : Bool) → after (forms k) s (map mark_of (sign_before negative)) ≡ Some (at_place (place.Term negative count.Empty) es)
    signed_run true = rw (sign_next k s.place s.entries es true ends) refl
    signed_run false = rw (sign_next k s.place s.entries es false ends) refl

    go : (o : Option (List (Option ℚ))) → put es (column_of k t.term) (coefficient t) ≡ o → ((u : FormState) (gs : List (Option ℚ)) → closed k u.place u.entries ≡ Some gs → puts k gs terms ≡ Some fs → RunsTo k u (more_tokens terms) fs)
        → RunsTo k s (more_tokens (t ∷ terms)) fs
    go None put_e again = absurd (none-some fs (ap (option_and_then (λ l. puts k l terms)) (sym put_e) ∙ e))
    go (Some gs) put_e again =
        let (u, there, ends') = term_run k es gs t.negative t.term here put_e in
        let rest = again u gs ends' (ap (option_and_then (λ l. puts k l terms)) (sym put_e) ∙ e) in
        subst (λ p. RunsTo k s p fs) (sym (append_assoc (sign_before t.negative) (term_tokens t.term) (more_tokens terms)))
        (runs_on k s _ (sign_before t.negative) (term_tokens t.term ++ more_tokens terms) fs (signed_run t.negative) (runs_on k _ u (term_tokens t.term) (more_tokens terms) fs there rest))

-- at the beginning of a form a term may come at once
first_run : (k : ℕ) (es fs : List (Option ℚ)) (t : Term) → RunsTo k (at_place (place.Term false count.Empty) es) (term_tokens t) fs → RunsTo k (at_place place.Begin es) (term_tokens t) fs
first_run k es fs (Variable column) run = run
first_run k es fs (Multiple (Whole n) column) run = run
first_run k es fs (Multiple (Over n x) column) run = run
first_run k es fs (Constant (Whole n)) run = run
first_run k es fs (Constant (Over n x)) run = run

lead_run : (k : ℕ) (es fs : List (Option ℚ)) (negative : Bool) (t : Term) → RunsTo k (at_place (place.Term negative count.Empty) es) (term_tokens t) fs
    → RunsTo k (at_place place.Begin es) (minus_before negative ++ term_tokens t) fs
lead_run k es fs true t run = runs_on k (at_place place.Begin es) (at_place (place.Term true count.Empty) es) (minus_before true) (term_tokens t) fs refl run
lead_run k es fs false t run = first_run k es fs t run

-- the text of terms is read
pub form_run : (k : ℕ) (terms : List Signed) (fs : List (Option ℚ)) → 0 < length terms → AreTermsOver k terms → puts k no_entries terms ≡ Some fs → RunsTo k (forms k).start (form_tokens terms) fs
form_run k [] fs some over e = absurd (omega arith)
form_run k (t ∷ terms) fs some (here, over) e = go (put no_entries (column_of k t.term) (coefficient t)) refl
  where
    go : (o : Option (List (Option ℚ))) → put no_entries (column_of k t.term) (coefficient t) ≡ o → RunsTo k (forms k).start (form_tokens (t ∷ terms)) fs
    go None put_e = absurd (none-some fs (ap (option_and_then (λ l. puts k l terms)) (sym put_e) ∙ e))
    go (Some gs) put_e =
        let (u, there, ends') = lead_run k no_entries gs t.negative t.term (term_run k no_entries gs t.negative t.term here put_e) in
        runs_on k (forms k).start u (minus_before t.negative ++ term_tokens t.term) (more_tokens terms) fs there (more_run k terms u gs fs ends' over (ap (option_and_then (λ l. puts k l terms)) (sym put_e) ∙ e))

-- ---- what is read is the text of a form

-- the sign before one more term
abbrev pub sign_tokens : List Signed → (negative : Bool) → List Plain
sign_tokens [] negative = minus_before negative
sign_tokens (t ∷ terms) negative = sign_before negative

abbrev pub signed_term : Bool → Term → Signed
signed_term negative t = record { negative = negative; term = t }

pub more_snoc : (terms : List Signed) (negative : Bool) (t : Term) → more_tokens (terms ++ signed_term negative t ∷ []) ≡ (more_tokens terms ++ sign_before negative) ++ term_tokens t
more_snoc [] negative t = append-nil (sign_before negative ++ term_tokens t)
more_snoc (u ∷ terms) negative t =
    ap (λ l. (sign_before u.negative ++ term_tokens u.term) ++ l) (more_snoc terms negative t)
    ∙ sym (append_assoc (sign_before u.negative ++ term_tokens u.term) (more_tokens terms ++ sign_before negative) (term_tokens t))
    ∙ ap (λ l. l ++ term_tokens t) (sym (append_assoc (sign_before u.negative ++ term_tokens u.term) (more_tokens terms) (sign_before negative)))

pub form_snoc : (terms : List Signed) (negative : Bool) (t : Term) → form_tokens (terms ++ signed_term negative t ∷ []) ≡ (form_tokens terms ++ sign_tokens terms negative) ++ term_tokens t
form_snoc [] negative t = append-nil (minus_before negative ++ term_tokens t)
form_snoc (u ∷ terms) negative t =
    ap (λ l. (minus_before u.negative ++ term_tokens u.term) ++ l) (more_snoc terms negative t)
    ∙ sym (append_assoc (minus_before u.negative ++ term_tokens u.term) (more_tokens terms ++ sign_before negative) (term_tokens t))
    ∙ ap (λ l. l ++ term_tokens t) (sym (append_assoc (minus_before u.negative ++ term_tokens u.term) (more_tokens terms) (sign_before negative)))

pub puts_snoc : (k : ℕ) (es fs gs : List (Option ℚ)) (terms : List Signed) (t : Signed) → puts k es terms ≡ Some fs → put fs (column_of k t.term) (coefficient t) ≡ Some gs → puts k es (terms ++ t ∷ []) ≡ Some gs
puts_snoc k es fs gs [] t e f = let same : es ≡ fs = same_Some es fs e in rw (same, f) refl
puts_snoc k es fs gs (u ∷ terms) t e f = go (put es (column_of k u.term) (coefficient u)) refl (λ hs e'. puts_snoc k hs fs gs terms t e' f)
  where
    go : (o : Option (List (Option ℚ))) → put es (column_of k u.term) (coefficient u) ≡ o → ((hs : List (Option ℚ)) → puts k hs terms ≡ Some fs → puts k hs (terms ++ t ∷ []) ≡ Some gs)
        → puts k es (u ∷ terms ++ t ∷ []) ≡ Some gs
    go None put_e again = absurd (none-some fs (ap (option_and_then (λ l. puts k l terms)) (sym put_e) ∙ e))
    go (Some hs) put_e again = ap (option_and_then (λ l. puts k l (terms ++ t ∷ []))) put_e ∙ again hs (ap (option_and_then (λ l. puts k l terms)) (sym put_e) ∙ e)

pub over_snoc : (k : ℕ) (terms : List Signed) (t : Signed) → AreTermsOver k terms → IsTermOver k t.term → AreTermsOver k (terms ++ t ∷ [])
over_snoc k [] t over here = (here, tt)
over_snoc k (u ∷ terms) t (first, over) here = (first, over_snoc k terms t over here)

-- whole terms, with these entries
pub record IsRead (k : ℕ) (es : List (Option ℚ)) (p : List Plain) : Type 0 where
  pub terms : List Signed
  pub some : 0 < length terms
  pub over : AreTermsOver k terms
  pub puts_es : puts k no_entries terms ≡ Some es
  pub tokens : p ≡ form_tokens terms

-- whole terms, if any, and a sign, if one is to come
pub record IsLed (k : ℕ) (negative : Bool) (es : List (Option ℚ)) (p : List Plain) : Type 0 where
  pub terms : List Signed
  pub over : AreTermsOver k terms
  pub puts_es : puts k no_entries terms ≡ Some es
  pub tokens : p ≡ form_tokens terms ++ sign_tokens terms negative

pub long_snoc : (terms : List Signed) (t : Signed) → 0 < length (terms ++ t ∷ [])
long_snoc [] t = omega arith
long_snoc (u ∷ terms) t = omega arith

-- one term more
ended : (k : ℕ) (negative : Bool) (es fs : List (Option ℚ)) (p : List Plain) (t : Term) → IsLed k negative es p → IsTermOver k t → put es (column_of k t) (coefficient_of negative t) ≡ Some fs → IsRead k fs (p ++ term_tokens t)
ended k negative es fs p t led here e = record {
  terms = led.terms ++ signed_term negative t ∷ [];
  some = long_snoc led.terms (signed_term negative t);
  over = over_snoc k led.terms (signed_term negative t) led.over here;
  puts_es = puts_snoc k no_entries es fs led.terms (signed_term negative t) led.puts_es e;
  tokens = ap (λ l. l ++ term_tokens t) led.tokens ∙ sym (form_snoc led.terms negative t);
}

-- what the tokens of a form are, by where it stands
abbrev pub Written : ℕ → Place → List (Option ℚ) → List Plain → Type 0
Written k place.Begin es p = (p ≡ []) × (es ≡ no_entries)
Written k (place.Term negative c) es p = (q : List Plain) × (n : List Plain) × IsLed k negative es q × WrittenCount negative c n × (p ≡ q ++ n)
Written k (place.Named v) es p = (negative : Bool) × (q : List Plain) × (n : List Plain) × IsLed k negative es q × IsFactor negative v n × (p ≡ q ++ n ++ PlainWord (codes "x") ∷ [])
Written k place.Ended es p = IsRead k es p

begun : (k : ℕ) (es : List (Option ℚ)) (negative : Bool) (p : List Plain) → (p ≡ []) × (es ≡ no_entries) → IsLed k negative es (p ++ minus_before negative)
begun k es negative p (none, empty) = record { terms = []; over = tt; puts_es = ap Some (sym empty); tokens = ap (λ l. l ++ minus_before negative) none }

led_more : (k : ℕ) (es : List (Option ℚ)) (negative : Bool) (p : List Plain) → IsRead k es p → IsLed k negative es (p ++ sign_before negative)
led_more k es negative p read = record {
  terms = read.terms;
  over = read.over;
  puts_es = read.puts_es;
  tokens = ap (λ l. l ++ sign_before negative) read.tokens ∙ ap (λ l. form_tokens read.terms ++ l) (sym (sign_after read.terms negative read.some));
}
  where
    sign_after : (terms : List Signed) (negative : Bool) → 0 < length terms → sign_tokens terms negative ≡ sign_before negative
    sign_after [] negative some = absurd (omega arith)
    sign_after (t ∷ terms) negative some = refl

-- where the form may end, it is read
pub closed_written : (k : ℕ) (p : Place) (es fs : List (Option ℚ)) (tokens : List Plain) → Written k p es tokens → closed k p es ≡ Some fs → IsRead k fs tokens
closed_written k place.Begin es fs tokens w e = absurd (none-some fs e)
closed_written k (place.Named v) es fs tokens w e = absurd (none-some fs e)
closed_written k place.Ended es fs tokens w e = subst (λ l. IsRead k l tokens) (same_Some es fs e) w
closed_written k (place.Term negative c) es fs tokens (q, n, led, written, is) e = go (count_value c) refl
  where
    go : (o : Option ℚ) → count_value c ≡ o → IsRead k fs tokens
    go None none = absurd (none-some fs (ap (option_and_then (λ v. put es k v)) (sym none) ∙ e))
    go (Some v) value =
        let number = value_written negative c v n written value in
        let put_e : put es k v ≡ Some fs = ap (option_and_then (λ v. put es k v)) (sym value) ∙ e in
        let done = ended k negative es fs q (Constant number.0) led tt (ap (put es k) (sym number.2) ∙ put_e) in
        subst (IsRead k fs) (sym (is ∙ ap (λ l. q ++ l) number.1)) done

abbrev pub StateWritten : ℕ → FormState → List Plain → Type 0
StateWritten k s p = Written k s.place s.entries p

-- a term is a token longer
term_written : (k : ℕ) (negative : Bool) (c : Count) (es : List (Option ℚ)) (m : Mark) (t : Plain) (q n : List Plain) → IsMarked m t → IsLed k negative es q → WrittenCount negative c n
    → IfSome (term_next negative c es m) (λ s. StateWritten k s ((q ++ n) ++ t ∷ []))
term_written k negative c es m t q n is led written = by_mark m is
  where
    named : (o : Option ℚ) → factor_of negative c ≡ o → t ≡ PlainWord (codes "x") → IfSome (option_map (λ v. at_place (place.Named v) es) o) (λ s. StateWritten k s ((q ++ n) ++ t ∷ []))
    named None e x = tt
    named (Some v) e x = (negative, q, n, led, factor_written negative c v n written e, ap (λ u. (q ++ n) ++ u ∷ []) x)

    counted : (m : Mark) → IsMarked m t → (o : Option Count) → count_next negative c m ≡ o → IfSome (option_map (λ d. at_place (place.Term negative d) es) o) (λ s. StateWritten k s ((q ++ n) ++ t ∷ []))
    counted m is None e = tt
    counted m is (Some d) e = (q, n ++ t ∷ [], led, subst (λ o. IfSome o (λ d. WrittenCount negative d (n ++ t ∷ []))) e (count_step negative c m t n is written), append_assoc q n (t ∷ []))

    by_mark : (m : Mark) → IsMarked m t → IfSome (term_next negative c es m) (λ s. StateWritten k s ((q ++ n) ++ t ∷ []))
    by_mark mark.X is = named (factor_of negative c) refl is
    by_mark m is = counted m is (count_next negative c m) refl

-- a name is a token longer
name_written : (k : ℕ) (v : ℚ) (es : List (Option ℚ)) (m : Mark) (t : Plain) (p : List Plain) → IsMarked m t → Written k (place.Named v) es p → IfSome (name_next k v es m) (λ s. StateWritten k s (p ++ t ∷ []))
name_written k v es (mark.Number (pos (suc column))) t p is (negative, q, n, led, factor, tokens) = go (ltb column k) refl (put es column v) refl
  where
    done : (fs : List (Option ℚ)) → column < k → put es column v ≡ Some fs → IsFactor negative v n → IsRead k fs (p ++ t ∷ [])
    done fs within e factor =
        ⊎_elim
        (λ one. subst (IsRead k fs) (rw (tokens, one.0, is) (simp append_assoc))
        (ended k negative es fs q (Variable column) led within (ap (put es column) (sym one.1) ∙ e)))
        (λ number. subst (IsRead k fs) (rw (tokens, number.1, is) (simp append_assoc))
        (ended k negative es fs q (Multiple number.0 column) led within (ap (put es column) (sym number.2) ∙ e)))
        factor

    go : (b : Bool) → ltb column k ≡ b → (o : Option (List (Option ℚ))) → put es column v ≡ o → IfSome (cond b (option_map (λ es. at_place place.Ended es) o) None) (λ s. StateWritten k s (p ++ t ∷ []))
    go false within o e = tt
    go true within None e = tt
    go true within (Some fs) e = done fs (ltb-true column k within) e factor
name_written k v es m t p is w = tt

-- a token that is no sign
in_term_written : (k : ℕ) (p : Place) (es : List (Option ℚ)) (m : Mark) (t : Plain) (tokens : List Plain) → IsMarked m t → Written k p es tokens → IfSome (in_term_next k p es m) (λ s. StateWritten k s (tokens ++ t ∷ []))
in_term_written k place.Begin es m t tokens is w =
    let parts : (tokens ++ []) ++ [] ≡ tokens = append-nil (tokens ++ []) ∙ append-nil tokens in
    subst (λ l. IfSome (term_next false count.Empty es m) (λ s. StateWritten k s (l ++ t ∷ []))) parts
    (term_written k false count.Empty es m t (tokens ++ []) [] is (begun k es false tokens w) refl)
in_term_written k (place.Term negative c) es m t tokens is (q, n, led, written, parts) =
    subst (λ l. IfSome (term_next negative c es m) (λ s. StateWritten k s (l ++ t ∷ []))) (sym parts) (term_written k negative c es m t q n is led written)
in_term_written k (place.Named v) es m t tokens is w = name_written k v es m t tokens is w
in_term_written k place.Ended es m t tokens is w = tt

sign_written : (k : ℕ) (negative : Bool) (p : Place) (es : List (Option ℚ)) (t : Plain) (tokens : List Plain) → t ∷ [] ≡ sign_before negative → Written k p es tokens
    → IfSome (option_map (λ l. at_place (place.Term negative count.Empty) l) (closed k p es)) (λ s. StateWritten k s (tokens ++ t ∷ []))
sign_written k negative p es t tokens is w = go (closed k p es) refl
  where
    go : (o : Option (List (Option ℚ))) → closed k p es ≡ o → IfSome (option_map (λ l. at_place (place.Term negative count.Empty) l) o) (λ s. StateWritten k s (tokens ++ t ∷ []))
    go None e = tt
    go (Some fs) e = (tokens ++ sign_before negative, [], led_more k fs negative tokens (closed_written k p es fs tokens w e), refl, ap (λ l. tokens ++ l) is ∙ sym (append-nil (tokens ++ sign_before negative)))

-- the tokens so far are a token longer
pub form_written : (k : ℕ) (p : Place) (es : List (Option ℚ)) (m : Mark) (t : Plain) (tokens : List Plain) → IsMarked m t → Written k p es tokens → IfSome (form_next k p es m) (λ s. StateWritten k s (tokens ++ t ∷ []))
form_written k place.Begin es mark.Minus t tokens is w =
    (tokens ++ t ∷ [], [], subst (λ l. IsLed k true es (tokens ++ l ∷ [])) (sym is) (begun k es true tokens w), refl, sym (append-nil (tokens ++ t ∷ [])))
form_written k (place.Term negative c) es mark.Minus t tokens is w = sign_written k true (place.Term negative c) es t tokens (ap (λ u. u ∷ []) is) w
form_written k (place.Named v) es mark.Minus t tokens is w = tt
form_written k place.Ended es mark.Minus t tokens is w = sign_written k true place.Ended es t tokens (ap (λ u. u ∷ []) is) w
form_written k place.Begin es mark.Plus t tokens is w = tt
form_written k (place.Term negative c) es mark.Plus t tokens is w = sign_written k false (place.Term negative c) es t tokens (ap (λ u. u ∷ []) is) w
form_written k (place.Named v) es mark.Plus t tokens is w = tt
form_written k place.Ended es mark.Plus t tokens is w = sign_written k false place.Ended es t tokens (ap (λ u. u ∷ []) is) w
form_written k p es m t tokens is w = in_term_written k p es m t tokens is w

pub all_written : (k : ℕ) (ts tokens : List Plain) (s u : FormState) → StateWritten k s tokens → after (forms k) s (map mark_of ts) ≡ Some u → StateWritten k u (tokens ++ ts)
all_written k [] tokens s u w there = subst (λ v. StateWritten k v (tokens ++ [])) (same_Some s u there) (subst (StateWritten k s) (sym (append-nil tokens)) w)
all_written k (t ∷ ts) tokens s u w there =
    go (form_next k s.place s.entries (mark_of t)) refl (λ v w' there'. subst (StateWritten k u) (append_assoc tokens (t ∷ []) ts) (all_written k ts (tokens ++ t ∷ []) v u w' there'))
  where
    go : (o : Option FormState) → form_next k s.place s.entries (mark_of t) ≡ o → ((v : FormState) → StateWritten k v (tokens ++ t ∷ []) → after (forms k) v (map mark_of ts) ≡ Some u → StateWritten k u (tokens ++ t ∷ ts))
        → StateWritten k u (tokens ++ t ∷ ts)
    go None e again = absurd (none-some u (ap (option_and_then (λ v. after (forms k) v (map mark_of ts))) (sym e) ∙ there))
    go (Some v) e again =
        again v (subst (λ o. IfSome o (λ v. StateWritten k v (tokens ++ t ∷ []))) e (form_written k s.place s.entries (mark_of t) t tokens (marked t) w))
        (ap (option_and_then (λ v. after (forms k) v (map mark_of ts))) (sym e) ∙ there)

-- what is read is the text of terms
pub form_read : (k : ℕ) (ts : List Plain) (u : FormState) (es : List (Option ℚ)) → after (forms k) (forms k).start (map mark_of ts) ≡ Some u → closed k u.place u.entries ≡ Some es → IsRead k es ts
form_read k ts u es there ends = closed_written k u.place u.entries es ts (all_written k ts [] (forms k).start u (refl, refl) there) ends
