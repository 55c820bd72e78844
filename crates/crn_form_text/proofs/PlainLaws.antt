-- Forms without negative coefficients are read from exactly the tokens that spell them.
use Rattle.std.proofs.Common.{◌≡◌, ℕ, suc, ◌<◌, ltb, pos, Bool, true, false, cond, List, [], ◌∷◌, ◌++◌, length, map, Option, Some, None, IfSome, refl, sym, ap, ◌∙◌, subst, ⊎_elim, arith, append_assoc, append-nil, lt-ltb, ltb-true}
use Rattle.std.proofs.lemmas.List.{map-append}
use Rattle.std.specs.Prelude.{codes}
use Rattle.std.specs.Option.{option_and_then, option_map}
use Rattle.std.proofs.lemmas.Option.{none-some, same_Some}
use Rattle.crn_grammar.specs.Table.{after}
use Rattle.crn_grammar.proofs.TableLaws.{after_then}
use Rattle.crn_token.specs.Plain.{Plain, PlainWord}
use Rattle.crn_fraction.specs.Rational.{ℚ}
use Rattle.crn_form_text.specs.declared.mark.Mark.{Mark}
use Rattle.crn_form_text.specs.declared.mark.Mark.TheVariants as mark
use Rattle.crn_form_text.specs.declared.number.Count.{Count}
use Rattle.crn_form_text.specs.declared.number.Count.TheVariants as count
use Rattle.crn_form_text.specs.declared.form.Place.{Place}
use Rattle.crn_form_text.specs.declared.form.Place.TheVariants as place
use Rattle.crn_form_text.specs.Grammar.{Whole, Over, Term, Variable, Multiple, Constant, Signed, minus_before, sign_before, term_tokens, more_tokens, form_tokens, column_of, coefficient_of, coefficient, IsTermOver, AreTermsOver, IsPlainTerm, ArePlain}
use Rattle.crn_form_text.specs.Reading.{FormState, at_place, put, term_next, in_term_next, name_next, plain_next, no_entries, plain_forms, mark_of, count_next, factor_of}
use Rattle.crn_form_text.proofs.Marks.{IsMarked, marked}
use Rattle.crn_form_text.proofs.Puts.{puts}
use Rattle.crn_form_text.proofs.NumberLaws.{WrittenCount, count_step, over_whole, IsFactor, factor_written}
use Rattle.crn_form_text.proofs.FormLaws.{signed_term, sign_tokens, form_snoc, puts_snoc, over_snoc, long_snoc}

-- ---- the text of a form is read
abbrev pub Leads : ℕ → FormState → List Plain → FormState → Type 0
Leads k s tokens u = after (plain_forms k) s (map mark_of tokens) ≡ Some u

abbrev pub ended_at : List (Option ℚ) → FormState
ended_at es = at_place place.Ended es

abbrev pub term_at : List (Option ℚ) → FormState
term_at es = at_place (place.Term false count.Empty) es

named_run : (k : ℕ) (es fs : List (Option ℚ)) (column : ℕ) (q v : ℚ) → column < k → v ≡ q → put es column q ≡ Some fs → name_next k v es (mark.Number (pos (suc column))) ≡ Some (ended_at fs)
named_run k es fs column q v within same e = rw (same, lt-ltb column k within, e) refl

term_run : (k : ℕ) (es fs : List (Option ℚ)) (t : Term) → IsTermOver k t → IsPlainTerm t → put es (column_of k t) (coefficient_of false t) ≡ Some fs → Leads k (term_at es) (term_tokens t) (ended_at fs)
term_run k es fs (Variable column) within plain e = rw (named_run k es fs column _ _ within refl e) refl
term_run k es fs (Multiple (Whole n) column) within plain e = rw (named_run k es fs column _ _ within refl e) refl
term_run k es fs (Multiple (Over n x) column) within plain e = rw (named_run k es fs column _ _ within (over_whole false n x) e) refl
term_run k es fs (Constant n) within plain e = absurd plain

first_run : (k : ℕ) (es fs : List (Option ℚ)) (t : Term) → IsPlainTerm t → Leads k (term_at es) (term_tokens t) (ended_at fs) → Leads k (at_place place.Begin es) (term_tokens t) (ended_at fs)
first_run k es fs (Variable column) plain run = run
first_run k es fs (Multiple (Whole n) column) plain run = run
first_run k es fs (Multiple (Over n x) column) plain run = run
first_run k es fs (Constant n) plain run = absurd plain

leads_on : (k : ℕ) (s u v : FormState) (xs ys : List Plain) → Leads k s xs u → Leads k u ys v → Leads k s (xs ++ ys) v
leads_on k s u v xs ys first then = ap (after (plain_forms k) s) (map-append mark_of xs ys) ∙ after_then (plain_forms k) s u (map mark_of xs) (map mark_of ys) first ∙ then

more_run : (k : ℕ) (terms : List Signed) (es fs : List (Option ℚ)) → AreTermsOver k terms → ArePlain terms → puts k es terms ≡ Some fs → Leads k (ended_at es) (more_tokens terms) (ended_at fs)
more_run k [] es fs over plain e = ap (λ l. Some (ended_at l)) (same_Some es fs e)
more_run k (t ∷ terms) es fs (here, over) (positive, plain_t, plain) e = go (put es (column_of k t.term) (coefficient t)) refl (λ gs e'. more_run k terms gs fs over plain e')
  where
    signed_run : (negative : Bool) → negative ≡ false → Leads k (ended_at es) (sign_before negative) (term_at es)
    signed_run true e = absurd (cc e)
    signed_run false e = refl

    go : (o : Option (List (Option ℚ))) → put es (column_of k t.term) (coefficient t) ≡ o → ((gs : List (Option ℚ)) → puts k gs terms ≡ Some fs → Leads k (ended_at gs) (more_tokens terms) (ended_at fs))
        → Leads k (ended_at es) (more_tokens (t ∷ terms)) (ended_at fs)
    go None put_e again = absurd (none-some fs (ap (option_and_then (λ l. puts k l terms)) (sym put_e) ∙ e))
    go (Some gs) put_e again =
        let one = term_run k es gs t.term here plain_t (ap (λ b. put es (column_of k t.term) (coefficient_of b t.term)) (sym positive) ∙ put_e) in
        leads_on k (ended_at es) (ended_at gs) (ended_at fs) (sign_before t.negative ++ term_tokens t.term) (more_tokens terms)
        (leads_on k (ended_at es) (term_at es) (ended_at gs) (sign_before t.negative) (term_tokens t.term) (signed_run t.negative positive) one)
        (again gs (ap (option_and_then (λ l. puts k l terms)) (sym put_e) ∙ e))

-- the text of terms is read
pub plain_run : (k : ℕ) (terms : List Signed) (fs : List (Option ℚ)) → 0 < length terms → AreTermsOver k terms → ArePlain terms → puts k no_entries terms ≡ Some fs → Leads k (plain_forms k).start (form_tokens terms) (ended_at fs)
plain_run k [] fs some over plain e = absurd (omega arith)
plain_run k (t ∷ terms) fs some (here, over) (positive, plain_t, plain) e = go (put no_entries (column_of k t.term) (coefficient t)) refl
  where
    lead : (gs : List (Option ℚ)) (negative : Bool) → negative ≡ false → Leads k (plain_forms k).start (term_tokens t.term) (ended_at gs)
        → Leads k (plain_forms k).start (minus_before negative ++ term_tokens t.term) (ended_at gs)
    lead gs true e run = absurd (cc e)
    lead gs false e run = run

    go : (o : Option (List (Option ℚ))) → put no_entries (column_of k t.term) (coefficient t) ≡ o → Leads k (plain_forms k).start (form_tokens (t ∷ terms)) (ended_at fs)
    go None put_e = absurd (none-some fs (ap (option_and_then (λ l. puts k l terms)) (sym put_e) ∙ e))
    go (Some gs) put_e =
        let one = term_run k no_entries gs t.term here plain_t (ap (λ b. put no_entries (column_of k t.term) (coefficient_of b t.term)) (sym positive) ∙ put_e) in
        leads_on k (plain_forms k).start (ended_at gs) (ended_at fs) (minus_before t.negative ++ term_tokens t.term) (more_tokens terms)
        (lead gs t.negative positive (first_run k no_entries gs t.term plain_t one))
        (more_run k terms gs fs over plain (ap (option_and_then (λ l. puts k l terms)) (sym put_e) ∙ e))

-- ---- what is read is the text of a form
plain_snoc : (terms : List Signed) (t : Term) → ArePlain terms → IsPlainTerm t → ArePlain (terms ++ signed_term false t ∷ [])
plain_snoc [] t plain here = (refl, here, tt)
plain_snoc (u ∷ terms) t (positive, plain_u, plain) here = (positive, plain_u, plain_snoc terms t plain here)

-- whole terms, with these entries
pub record IsPlainRead (k : ℕ) (es : List (Option ℚ)) (p : List Plain) : Type 0 where
  pub terms : List Signed
  pub some : 0 < length terms
  pub over : AreTermsOver k terms
  pub plain : ArePlain terms
  pub puts_es : puts k no_entries terms ≡ Some es
  pub tokens : p ≡ form_tokens terms

-- whole terms, if any, and a sign, if one is to come
pub record IsPlainLed (k : ℕ) (es : List (Option ℚ)) (p : List Plain) : Type 0 where
  pub terms : List Signed
  pub over : AreTermsOver k terms
  pub plain : ArePlain terms
  pub puts_es : puts k no_entries terms ≡ Some es
  pub tokens : p ≡ form_tokens terms ++ sign_tokens terms false

ended : (k : ℕ) (es fs : List (Option ℚ)) (p : List Plain) (t : Term) → IsPlainLed k es p → IsTermOver k t → IsPlainTerm t → put es (column_of k t) (coefficient_of false t) ≡ Some fs → IsPlainRead k fs (p ++ term_tokens t)
ended k es fs p t led here plain e = record {
  terms = led.terms ++ signed_term false t ∷ [];
  some = long_snoc led.terms (signed_term false t);
  over = over_snoc k led.terms (signed_term false t) led.over here;
  plain = plain_snoc led.terms t led.plain plain;
  puts_es = puts_snoc k no_entries es fs led.terms (signed_term false t) led.puts_es e;
  tokens = ap (λ l. l ++ term_tokens t) led.tokens ∙ sym (form_snoc led.terms false t);
}

abbrev pub PlainWritten : ℕ → Place → List (Option ℚ) → List Plain → Type 0
PlainWritten k place.Begin es p = (p ≡ []) × (es ≡ no_entries)
PlainWritten k (place.Term negative c) es p = (negative ≡ false) × (q : List Plain) × (n : List Plain) × IsPlainLed k es q × WrittenCount negative c n × (p ≡ q ++ n)
PlainWritten k (place.Named v) es p = (q : List Plain) × (n : List Plain) × IsPlainLed k es q × IsFactor false v n × (p ≡ q ++ n ++ PlainWord (codes "x") ∷ [])
PlainWritten k place.Ended es p = IsPlainRead k es p

abbrev pub PlainState : ℕ → FormState → List Plain → Type 0
PlainState k s p = PlainWritten k s.place s.entries p

begun : (k : ℕ) (es : List (Option ℚ)) (p : List Plain) → (p ≡ []) × (es ≡ no_entries) → IsPlainLed k es p
begun k es p (none, empty) = record { terms = []; over = tt; plain = tt; puts_es = ap Some (sym empty); tokens = none }

led_more : (k : ℕ) (es : List (Option ℚ)) (p : List Plain) → IsPlainRead k es p → IsPlainLed k es (p ++ sign_before false)
led_more k es p read = record {
  terms = read.terms;
  over = read.over;
  plain = read.plain;
  puts_es = read.puts_es;
  tokens = ap (λ l. l ++ sign_before false) read.tokens ∙ ap (λ l. form_tokens read.terms ++ l) (sym (sign_after read.terms read.some));
}
  where
    sign_after : (terms : List Signed) → 0 < length terms → sign_tokens terms false ≡ sign_before false
    sign_after [] some = absurd (omega arith)
    sign_after (t ∷ terms) some = refl

term_written : (k : ℕ) (negative : Bool) (c : Count) (es : List (Option ℚ)) (m : Mark) (t : Plain) (q n : List Plain) → negative ≡ false → IsMarked m t → IsPlainLed k es q → WrittenCount negative c n
    → IfSome (term_next negative c es m) (λ s. PlainState k s ((q ++ n) ++ t ∷ []))
term_written k negative c es m t q n positive is led written = by_mark m is
  where
    named : (o : Option ℚ) → factor_of negative c ≡ o → t ≡ PlainWord (codes "x") → IfSome (option_map (λ v. at_place (place.Named v) es) o) (λ s. PlainState k s ((q ++ n) ++ t ∷ []))
    named None e x = tt
    named (Some v) e x = (q, n, led, subst (λ b. IsFactor b v n) positive (factor_written negative c v n written e), ap (λ u. (q ++ n) ++ u ∷ []) x)

    counted : (m : Mark) → IsMarked m t → (o : Option Count) → count_next negative c m ≡ o → IfSome (option_map (λ d. at_place (place.Term negative d) es) o) (λ s. PlainState k s ((q ++ n) ++ t ∷ []))
    counted m is None e = tt
    counted m is (Some d) e = (positive, q, n ++ t ∷ [], led, subst (λ o. IfSome o (λ d. WrittenCount negative d (n ++ t ∷ []))) e (count_step negative c m t n is written), append_assoc q n (t ∷ []))

    by_mark : (m : Mark) → IsMarked m t → IfSome (term_next negative c es m) (λ s. PlainState k s ((q ++ n) ++ t ∷ []))
    by_mark mark.X is = named (factor_of negative c) refl is
    by_mark m is = counted m is (count_next negative c m) refl

name_written : (k : ℕ) (v : ℚ) (es : List (Option ℚ)) (m : Mark) (t : Plain) (p : List Plain) → IsMarked m t → PlainWritten k (place.Named v) es p → IfSome (name_next k v es m) (λ s. PlainState k s (p ++ t ∷ []))
name_written k v es (mark.Number (pos (suc column))) t p is (q, n, led, factor, tokens) = go (ltb column k) refl (put es column v) refl
  where
    done : (fs : List (Option ℚ)) → column < k → put es column v ≡ Some fs → IsFactor false v n → IsPlainRead k fs (p ++ t ∷ [])
    done fs within e factor =
        ⊎_elim
        (λ one. subst (IsPlainRead k fs) (rw (tokens, one.0, is) (simp append_assoc))
        (ended k es fs q (Variable column) led within tt (ap (put es column) (sym one.1) ∙ e)))
        (λ number. subst (IsPlainRead k fs) (rw (tokens, number.1, is) (simp append_assoc))
        (ended k es fs q (Multiple number.0 column) led within tt (ap (put es column) (sym number.2) ∙ e)))
        factor

    go : (b : Bool) → ltb column k ≡ b → (o : Option (List (Option ℚ))) → put es column v ≡ o → IfSome (cond b (option_map (λ es. at_place place.Ended es) o) None) (λ s. PlainState k s (p ++ t ∷ []))
    go false within o e = tt
    go true within None e = tt
    go true within (Some fs) e = done fs (ltb-true column k within) e factor
name_written k v es m t p is w = tt

in_term_written : (k : ℕ) (p : Place) (es : List (Option ℚ)) (m : Mark) (t : Plain) (tokens : List Plain) → IsMarked m t → PlainWritten k p es tokens → IfSome (in_term_next k p es m) (λ s. PlainState k s (tokens ++ t ∷ []))
in_term_written k place.Begin es m t tokens is w =
    subst (λ l. IfSome (term_next false count.Empty es m) (λ s. PlainState k s (l ++ t ∷ []))) (append-nil tokens)
    (term_written k false count.Empty es m t tokens [] refl is (begun k es tokens w) refl)
in_term_written k (place.Term negative c) es m t tokens is (positive, q, n, led, written, parts) =
    subst (λ l. IfSome (term_next negative c es m) (λ s. PlainState k s (l ++ t ∷ []))) (sym parts) (term_written k negative c es m t q n positive is led written)
in_term_written k (place.Named v) es m t tokens is w = name_written k v es m t tokens is w
in_term_written k place.Ended es m t tokens is w = tt

plain_written : (k : ℕ) (p : Place) (es : List (Option ℚ)) (m : Mark) (t : Plain) (tokens : List Plain) → IsMarked m t → PlainWritten k p es tokens → IfSome (plain_next k p es m) (λ s. PlainState k s (tokens ++ t ∷ []))
plain_written k p es mark.Minus t tokens is w = tt
plain_written k place.Ended es mark.Plus t tokens is w =
    (refl, tokens ++ t ∷ [], [], subst (λ l. IsPlainLed k es (tokens ++ l ∷ [])) (sym is) (led_more k es tokens w), refl, sym (append-nil (tokens ++ t ∷ [])))
plain_written k place.Begin es mark.Plus t tokens is w = tt
plain_written k (place.Term negative c) es mark.Plus t tokens is w = tt
plain_written k (place.Named v) es mark.Plus t tokens is w = tt
plain_written k p es m t tokens is w = in_term_written k p es m t tokens is w

all_written : (k : ℕ) (ts tokens : List Plain) (s u : FormState) → PlainState k s tokens → after (plain_forms k) s (map mark_of ts) ≡ Some u → PlainState k u (tokens ++ ts)
all_written k [] tokens s u w there = subst (λ v. PlainState k v (tokens ++ [])) (same_Some s u there) (subst (PlainState k s) (sym (append-nil tokens)) w)
all_written k (t ∷ ts) tokens s u w there =
    go (plain_next k s.place s.entries (mark_of t)) refl (λ v w' there'. subst (PlainState k u) (append_assoc tokens (t ∷ []) ts) (all_written k ts (tokens ++ t ∷ []) v u w' there'))
  where
    go : (o : Option FormState) → plain_next k s.place s.entries (mark_of t) ≡ o → ((v : FormState) → PlainState k v (tokens ++ t ∷ []) → after (plain_forms k) v (map mark_of ts) ≡ Some u → PlainState k u (tokens ++ t ∷ ts))
        → PlainState k u (tokens ++ t ∷ ts)
    go None e again = absurd (none-some u (ap (option_and_then (λ v. after (plain_forms k) v (map mark_of ts))) (sym e) ∙ there))
    go (Some v) e again =
        again v (subst (λ o. IfSome o (λ v. PlainState k v (tokens ++ t ∷ []))) e (plain_written k s.place s.entries (mark_of t) t tokens (marked t) w))
        (ap (option_and_then (λ v. after (plain_forms k) v (map mark_of ts))) (sym e) ∙ there)

-- what is read is the text of terms
pub plain_read : (k : ℕ) (ts : List Plain) (es : List (Option ℚ)) → Leads k (plain_forms k).start ts (ended_at es) → IsPlainRead k es ts
plain_read k ts es there = all_written k ts [] (plain_forms k).start (ended_at es) (refl, refl) there
