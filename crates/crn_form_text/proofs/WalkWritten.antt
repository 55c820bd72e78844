-- What is walked whole is the text of a formula.
use Rattle.std.proofs.Common.{◌≡◌, ℕ, ◌+◌, ◌≤◌, Bool, false, List, [], ◌∷◌, ◌++◌, map, Option, Some, None, IfSome, refl, sym, ap, ◌∙◌, subst, append_assoc, append-nil}
use Rattle.std.specs.Prelude.{codes}
use Rattle.std.specs.Option.{option_and_then, option_map}
use Rattle.std.proofs.lemmas.Option.{none-some, same_Some}
use Rattle.crn_grammar.specs.Table.{after}
use Rattle.crn_token.specs.declared.Sign.TheVariants.{LeftParen, RightParen, Comma}
use Rattle.crn_token.specs.Plain.{Plain, PlainWord, PlainSign}
use Rattle.crn_fraction.specs.Rational.{ℚ}
use Rattle.crn_formula.specs.Formulas.{Formula, Lin, Scale}
use Rattle.crn_form_text.specs.declared.mark.Operator.{Operator}
use Rattle.crn_form_text.specs.declared.mark.Operator.TheVariants as operator
use Rattle.crn_form_text.specs.declared.mark.Mark.{Mark}
use Rattle.crn_form_text.specs.declared.mark.Mark.TheVariants as mark
use Rattle.crn_form_text.specs.declared.number.Count.{Count}
use Rattle.crn_form_text.specs.declared.number.Count.TheVariants as count
use Rattle.crn_form_text.specs.declared.form.Place.{Place}
use Rattle.crn_form_text.specs.declared.form.Place.TheVariants as place
use Rattle.crn_form_text.specs.declared.formula.Frame.{Frame}
use Rattle.crn_form_text.specs.declared.formula.Frame.TheVariants as frame
use Rattle.crn_form_text.specs.Grammar.{minus_before, SpellsSigned, SpellsFormula, call, pair}
use Rattle.crn_form_text.specs.Reading.{FormState, closed, form_next, no_entries, form_with, mark_of, count_next, number_next, factor_next, factor_value, Mode, Want, Opens, Scales, InFactor, InForm, Have, Walk, with_leaf, with_mode, opened, having, comma, close, want_next, in_factor_next, in_form_next, after_form, walk_next, nothing_open, walks, whole_of}
use Rattle.crn_form_text.specs.Built.{applied}
use Rattle.crn_form_text.proofs.Marks.{IsMarked, marked, word_of}
use Rattle.crn_form_text.proofs.NumberLaws.{WrittenCount, count_step, value_written}
use Rattle.crn_form_text.proofs.FormLaws.{Written, StateWritten, form_written, closed_written}
use Rattle.crn_form_text.proofs.FormSpells.{read_terms}

-- what stands before a formula, by what is open around it
abbrev pub Context : ℕ → List Frame → List Plain → Type 0
Context k [] p = p ≡ []
Context k (frame.First o ∷ frames) p = (q : List Plain) × Context k frames q × (p ≡ q ++ PlainWord (word_of o) ∷ PlainSign LeftParen ∷ [])
Context k (frame.Second o ∷ frames) p = (q : List Plain) × (a : Formula) × (x : List Plain) × Context k frames q × SpellsFormula k a x × (p ≡ q ++ PlainWord (word_of o) ∷ PlainSign LeftParen ∷ [] ++ x ++ PlainSign Comma ∷ [])
Context k (frame.Times f ∷ frames) p = (q : List Plain) × (n : List Plain) × Context k frames q × SpellsSigned f n × (p ≡ q ++ PlainWord (codes "scale") ∷ PlainSign LeftParen ∷ [] ++ n ++ PlainSign Comma ∷ [])

-- the tokens of the fraction of `scale` so far
abbrev pub FactorWritten : Place → List Plain → Type 0
FactorWritten place.Begin n = n ≡ []
FactorWritten (place.Term negative c) n = (m : List Plain) × WrittenCount negative c m × (n ≡ minus_before negative ++ m)
FactorWritten _ n = ⊥

-- what the tokens so far are
abbrev pub WalkWritten : ℕ → Mode → List Frame → List Plain → Type 0
WalkWritten k Want frames p = Context k frames p
WalkWritten k (Opens o) frames p = (q : List Plain) × Context k frames q × (p ≡ q ++ PlainWord (word_of o) ∷ [])
WalkWritten k Scales frames p = (q : List Plain) × Context k frames q × (p ≡ q ++ PlainWord (codes "scale") ∷ [])
WalkWritten k (InFactor f) frames p = (q : List Plain) × (n : List Plain) × Context k frames q × FactorWritten f n × (p ≡ q ++ PlainWord (codes "scale") ∷ PlainSign LeftParen ∷ [] ++ n)
WalkWritten k (InForm f es) frames p = (q : List Plain) × (n : List Plain) × Context k frames q × Written k f es n × (p ≡ q ++ n)
WalkWritten k Have frames p = (q : List Plain) × (e : Formula) × (x : List Plain) × Context k frames q × SpellsFormula k e x × (p ≡ q ++ x)

abbrev pub WalkIs : ℕ → List Plain → Walk → Type 0
WalkIs k p w = WalkWritten k w.mode w.frames p

-- where a formula is whole
having_written : (k : ℕ) (m : Mode) (w : Walk) (p : List Plain) → k ≤ 8 → WalkWritten k m w.frames p → IfSome (having k m w) (λ h. WalkWritten k Have h.frames p)
having_written k Want w p few written = tt
having_written k (Opens o) w p few written = tt
having_written k Scales w p few written = tt
having_written k (InFactor f) w p few written = tt
having_written k Have w p few written = written
having_written k (InForm f es) w p few (q, n, context, form, is) = go (closed k f es) refl
  where
    go : (o : Option (List (Option ℚ))) → closed k f es ≡ o → IfSome (option_map (λ es. with_leaf k w (form_with (k + 1) es)) o) (λ h. WalkWritten k Have h.frames p)
    go None e = tt
    go (Some fs) e =
        let read = closed_written k f es fs n form e in
        (q, Lin (form_with (k + 1) fs), n, context, (read.terms, read_terms k fs read.terms few read.some read.over read.puts_es, read.tokens), is)

-- the first operand ends
comma_written : (k : ℕ) (frames : List Frame) (w : Walk) (t : Plain) (p : List Plain) → t ≡ PlainSign Comma → WalkWritten k Have frames p → IfSome (comma frames w) (λ v. WalkIs k (p ++ t ∷ []) v)
comma_written k (frame.First o ∷ frames) w t p comma_is (r, e, x, (q, context, r_is), spells, is) = (q, e, x, context, spells, rw (is, r_is, comma_is) (simp append_assoc))
comma_written k (frame.Second o ∷ frames) w t p comma_is written = tt
comma_written k (frame.Times f ∷ frames) w t p comma_is written = tt
comma_written k [] w t p comma_is written = tt

applied_spelled : (k : ℕ) (o : Operator) (a b : Formula) (x y : List Plain) → SpellsFormula k a x → SpellsFormula k b y → SpellsFormula k (applied o a b) (call (word_of o) (pair x y))
applied_spelled k operator.Add a b x y sa sb = (x, y, sa, sb, refl)
applied_spelled k operator.Sub a b x y sa sb = (x, y, sa, sb, refl)
applied_spelled k operator.Min a b x y sa sb = (x, y, sa, sb, refl)
applied_spelled k operator.Max a b x y sa sb = (x, y, sa, sb, refl)

-- the last operand ends
close_written : (k : ℕ) (frames : List Frame) (w : Walk) (t : Plain) (p : List Plain) → t ≡ PlainSign RightParen → WalkWritten k Have frames p → IfSome (close frames w) (λ v. WalkIs k (p ++ t ∷ []) v)
close_written k (frame.First o ∷ frames) w t p close_is written = tt
close_written k (frame.Second o ∷ frames) w t p close_is (r, e, y, (q, a, x, context, spells_a, r_is), spells, is) =
    (q, applied o a e, call (word_of o) (pair x y), context, applied_spelled k o a e x y spells_a spells, rw (is, r_is, close_is) (simp append_assoc))
close_written k (frame.Times f ∷ frames) w t p close_is (r, e, y, (q, n, context, signed, r_is), spells, is) =
    (q, Scale f e, call (codes "scale") (pair n y), context, (n, y, signed, spells, refl), rw (is, r_is, close_is) (simp append_assoc))
close_written k [] w t p close_is written = tt

-- ---- within a form
form_more : (k : ℕ) (f : Place) (es : List (Option ℚ)) (w : Walk) (m : Mark) (t : Plain) (q n : List Plain) → IsMarked m t → Context k w.frames q → Written k f es n
    → IfSome (option_map (λ (s : FormState). with_mode w (InForm s.place s.entries)) (form_next k f es m)) (λ v. WalkIs k ((q ++ n) ++ t ∷ []) v)
form_more k f es w m t q n is context form = go (form_next k f es m) (form_written k f es m t n is form)
  where
    go : (o : Option FormState) → IfSome o (λ s. StateWritten k s (n ++ t ∷ [])) → IfSome (option_map (λ (s : FormState). with_mode w (InForm s.place s.entries)) o) (λ v. WalkIs k ((q ++ n) ++ t ∷ []) v)
    go None more = tt
    go (Some s) more = (q, n ++ t ∷ [], context, more, append_assoc q n (t ∷ []))

after_written : (k : ℕ) (mode : Mode) (w : Walk) (m : Mark) (t : Plain) (p : List Plain) → k ≤ 8 → IsMarked m t → WalkWritten k mode w.frames p → IfSome (after_form k mode w m) (λ v. WalkIs k (p ++ t ∷ []) v)
after_written k mode w m t p few is written = by_mark m is
  where
    by_comma : (o : Option Walk) → t ≡ PlainSign Comma → IfSome o (λ h. WalkWritten k Have h.frames p) → IfSome (option_and_then (λ (v : Walk). comma v.frames v) o) (λ v. WalkIs k (p ++ t ∷ []) v)
    by_comma None is has = tt
    by_comma (Some h) is has = comma_written k h.frames h t p is has

    by_right : (o : Option Walk) → t ≡ PlainSign RightParen → IfSome o (λ h. WalkWritten k Have h.frames p) → IfSome (option_and_then (λ (v : Walk). close v.frames v) o) (λ v. WalkIs k (p ++ t ∷ []) v)
    by_right None is has = tt
    by_right (Some h) is has = close_written k h.frames h t p is has

    in_form : (mode : Mode) (m : Mark) → IsMarked m t → WalkWritten k mode w.frames p → IfSome (in_form_next k mode w m) (λ v. WalkIs k (p ++ t ∷ []) v)
    in_form Want m is written = tt
    in_form (Opens o) m is written = tt
    in_form Scales m is written = tt
    in_form (InFactor f) m is written = tt
    in_form Have m is written = tt
    in_form (InForm f es) m is (q, n, context, form, parts) =
        subst (λ l. IfSome (in_form_next k (InForm f es) w m) (λ v. WalkIs k (l ++ t ∷ []) v)) (sym parts) (form_more k f es w m t q n is context form)

    by_mark : (m : Mark) → IsMarked m t → IfSome (after_form k mode w m) (λ v. WalkIs k (p ++ t ∷ []) v)
    by_mark mark.Comma is = by_comma (having k mode w) is (having_written k mode w p few written)
    by_mark mark.Right is = by_right (having k mode w) is (having_written k mode w p few written)
    by_mark m is = in_form mode m is written

-- ---- within the fraction of `scale`
number_more : (negative : Bool) (c : Count) (m : Mark) (t : Plain) (n : List Plain) → IsMarked m t → WrittenCount negative c n → IfSome (number_next negative c m) (λ f. FactorWritten f ((minus_before negative ++ n) ++ t ∷ []))
number_more negative c m t n is written = go (count_next negative c m) (count_step negative c m t n is written)
  where
    go : (o : Option Count) → IfSome o (λ d. WrittenCount negative d (n ++ t ∷ [])) → IfSome (option_map (λ d. place.Term negative d) o) (λ f. FactorWritten f ((minus_before negative ++ n) ++ t ∷ []))
    go None more = tt
    go (Some d) more = (n ++ t ∷ [], more, append_assoc (minus_before negative) n (t ∷ []))

factor_more : (f : Place) (m : Mark) (t : Plain) (n : List Plain) → IsMarked m t → FactorWritten f n → IfSome (factor_next f m) (λ g. FactorWritten g (n ++ t ∷ []))
factor_more place.Begin mark.Minus t n is written = ([], refl, rw (written, is) refl)
factor_more place.Begin m t n is written = subst (λ l. IfSome (factor_next place.Begin m) (λ g. FactorWritten g (l ++ t ∷ []))) (sym written) (number_more false count.Empty m t [] is refl)
factor_more (place.Term negative c) m t n is (r, written, parts) =
    subst (λ l. IfSome (factor_next (place.Term negative c) m) (λ g. FactorWritten g (l ++ t ∷ []))) (sym parts) (number_more negative c m t r is written)
factor_more (place.Named v) m t n is written = absurd written
factor_more place.Ended m t n is written = absurd written

factor_is : (f : Place) (q : ℚ) (n : List Plain) → FactorWritten f n → factor_value f ≡ Some q → SpellsSigned q n
factor_is place.Begin q n written e = absurd (none-some q e)
factor_is (place.Term negative c) q n (r, written, parts) e =
    let number = value_written negative c q r written e in
    (negative, number.0, parts ∙ ap (λ l. minus_before negative ++ l) number.1, number.2)
factor_is (place.Named v) q n written e = absurd written
factor_is place.Ended q n written e = absurd written

in_factor_written : (k : ℕ) (f : Place) (w : Walk) (m : Mark) (t : Plain) (p : List Plain) → IsMarked m t → WalkWritten k (InFactor f) w.frames p → IfSome (in_factor_next f w m) (λ v. WalkIs k (p ++ t ∷ []) v)
in_factor_written k f w m t p is (q, n, context, factor, parts) = by_mark m is
  where
    by_comma : (o : Option ℚ) → factor_value f ≡ o → t ≡ PlainSign Comma → IfSome (option_map (λ q. opened w (frame.Times q)) o) (λ v. WalkIs k (p ++ t ∷ []) v)
    by_comma None e is = tt
    by_comma (Some r) e is = (q, n, context, factor_is f r n factor e, rw (parts, is) (simp append_assoc))

    more : (m : Mark) → IsMarked m t → (o : Option Place) → IfSome o (λ g. FactorWritten g (n ++ t ∷ [])) → IfSome (option_map (λ g. with_mode w (InFactor g)) o) (λ v. WalkIs k (p ++ t ∷ []) v)
    more m is None written = tt
    more m is (Some g) written = (q, n ++ t ∷ [], context, written, rw parts (simp append_assoc))

    by_mark : (m : Mark) → IsMarked m t → IfSome (in_factor_next f w m) (λ v. WalkIs k (p ++ t ∷ []) v)
    by_mark mark.Comma is = by_comma (factor_value f) refl is
    by_mark m is = more m is (factor_next f m) (factor_more f m t n is factor)

-- ---- the beginning of a formula
want_written : (k : ℕ) (w : Walk) (m : Mark) (t : Plain) (p : List Plain) → IsMarked m t → Context k w.frames p → IfSome (want_next k w m) (λ v. WalkIs k (p ++ t ∷ []) v)
want_written k w (mark.Word o) t p is context = (p, context, ap (λ u. p ++ u ∷ []) is)
want_written k w mark.Scale t p is context = (p, context, ap (λ u. p ++ u ∷ []) is)
want_written k w m t p is context =
    subst (λ l. IfSome (want_next k w m) (λ v. WalkIs k (l ++ t ∷ []) v)) (append-nil p) (form_more k place.Begin no_entries w m t p [] is context (refl, refl))

opens_written : (k : ℕ) (o : Operator) (w : Walk) (m : Mark) (t : Plain) (p : List Plain) → IsMarked m t → WalkWritten k (Opens o) w.frames p → IfSome (walk_next k (Opens o) w m) (λ v. WalkIs k (p ++ t ∷ []) v)
opens_written k o w mark.Left t p is (q, context, parts) = (q, context, rw (parts, is) (append_assoc q (PlainWord (word_of o) ∷ []) (PlainSign LeftParen ∷ [])))
opens_written k o w m t p is written = tt

scales_written : (k : ℕ) (w : Walk) (m : Mark) (t : Plain) (p : List Plain) → IsMarked m t → WalkWritten k Scales w.frames p → IfSome (walk_next k Scales w m) (λ v. WalkIs k (p ++ t ∷ []) v)
scales_written k w mark.Left t p is (q, context, parts) = (q, [], context, refl, rw (parts, is) (simp (append_assoc, append-nil)))
scales_written k w m t p is written = tt

-- the tokens so far are a token longer
walk_step : (k : ℕ) (mode : Mode) (w : Walk) (m : Mark) (t : Plain) (p : List Plain) → k ≤ 8 → IsMarked m t → WalkWritten k mode w.frames p → IfSome (walk_next k mode w m) (λ v. WalkIs k (p ++ t ∷ []) v)
walk_step k Want w m t p few is written = want_written k w m t p is written
walk_step k (Opens o) w m t p few is written = opens_written k o w m t p is written
walk_step k Scales w m t p few is written = scales_written k w m t p is written
walk_step k (InFactor f) w m t p few is written = in_factor_written k f w m t p is written
walk_step k (InForm f es) w m t p few is written = after_written k (InForm f es) w m t p few is written
walk_step k Have w m t p few is written = after_written k Have w m t p few is written

walk_all : (k : ℕ) (ts p : List Plain) (w u : Walk) → k ≤ 8 → WalkIs k p w → after (walks k) w (map mark_of ts) ≡ Some u → WalkIs k (p ++ ts) u
walk_all k [] p w u few written there = subst (WalkIs k (p ++ [])) (same_Some w u there) (subst (λ l. WalkIs k l w) (sym (append-nil p)) written)
walk_all k (t ∷ ts) p w u few written there =
    go (walk_next k w.mode w (mark_of t)) refl (λ v written' there'. subst (λ l. WalkIs k l u) (append_assoc p (t ∷ []) ts) (walk_all k ts (p ++ t ∷ []) v u few written' there'))
  where
    go : (o : Option Walk) → walk_next k w.mode w (mark_of t) ≡ o → ((v : Walk) → WalkIs k (p ++ t ∷ []) v → after (walks k) v (map mark_of ts) ≡ Some u → WalkIs k (p ++ t ∷ ts) u) → WalkIs k (p ++ t ∷ ts) u
    go None e again = absurd (none-some u (ap (option_and_then (λ v. after (walks k) v (map mark_of ts))) (sym e) ∙ there))
    go (Some v) e again =
        again v (subst (λ o. IfSome o (λ v. WalkIs k (p ++ t ∷ []) v)) e (walk_step k w.mode w (mark_of t) t p few (marked t) written))
        (ap (option_and_then (λ v. after (walks k) v (map mark_of ts))) (sym e) ∙ there)

-- what is walked whole is the text of a formula
pub walk_written : (k : ℕ) (ts : List Plain) (h : Walk) → k ≤ 8 → whole_of (walks k) (map mark_of ts) ≡ Some h → (e : Formula) × SpellsFormula k e ts
walk_written k ts h few ends = at_end (after (walks k) (walks k).start (map mark_of ts)) refl
  where
    outermost : (v g : Walk) (frames : List Frame) → nothing_open frames v ≡ Some g → WalkWritten k Have frames ts → (e : Formula) × SpellsFormula k e ts
    outermost v g [] e (q, formula, x, context, spells, is) = (formula, subst (SpellsFormula k formula) (sym (is ∙ ap (λ l. l ++ x) context)) spells)
    outermost v g (f ∷ frames) e written = absurd (none-some g e)

    whole : (v : Walk) (o : Option Walk) → IfSome o (λ g. WalkWritten k Have g.frames ts) → option_and_then (λ (v : Walk). nothing_open v.frames v) o ≡ Some h → (e : Formula) × SpellsFormula k e ts
    whole v None has e = absurd (none-some h e)
    whole v (Some g) has e = outermost g h g.frames e has

    at_end : (o : Option Walk) → after (walks k) (walks k).start (map mark_of ts) ≡ o → (e : Formula) × SpellsFormula k e ts
    at_end None there = absurd (none-some h (ap (option_and_then (walks k).whole) (sym there) ∙ ends))
    at_end (Some v) there =
        whole v (having k v.mode v) (having_written k v.mode v ts few (walk_all k ts [] (walks k).start v few refl there)) (ap (option_and_then (walks k).whole) (sym there) ∙ ends)
