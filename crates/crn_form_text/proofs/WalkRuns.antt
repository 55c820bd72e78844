-- The text of a formula is walked whole, and counted right.
use Rattle.std.proofs.Common.{◌≡◌, ℕ, suc, ◌+◌, ◌≤◌, max, Bool, true, false, ◌||◌, pos, List, [], ◌∷◌, ◌++◌, length, map, Option, Some, None, refl, sym, ap, ◌∙◌, subst, arith}
use Rattle.std.proofs.lemmas.List.{map-append}
use Rattle.std.specs.Prelude.{codes}
use Rattle.std.specs.Option.{option_and_then, option_map}
use Rattle.std.proofs.lemmas.Option.{none-some, same_Some}
use Rattle.crn_grammar.specs.Table.{after}
use Rattle.crn_grammar.proofs.TableLaws.{after_then}
use Rattle.crn_token.specs.declared.Sign.TheVariants.{LeftParen, RightParen, Comma}
use Rattle.crn_token.specs.Plain.{Plain, PlainWord, PlainSign}
use Rattle.crn_fraction.specs.Rational.{ℚ, whole, ◌/ℚ◌}
use Rattle.crn_formula.specs.Formulas.{Formula, Lin, Add, Sub, Scale, Min, Max, node_count, depth_of, formula_has_constant}
use Rattle.crn_form_text.specs.declared.mark.Operator.{Operator}
use Rattle.crn_form_text.specs.declared.mark.Operator.TheVariants as operator
use Rattle.crn_form_text.specs.declared.mark.Mark.{Mark}
use Rattle.crn_form_text.specs.declared.mark.Mark.TheVariants as mark
use Rattle.crn_form_text.specs.declared.number.Count.TheVariants as count
use Rattle.crn_form_text.specs.declared.form.Place.{Place}
use Rattle.crn_form_text.specs.declared.form.Place.TheVariants as place
use Rattle.crn_form_text.specs.declared.formula.Frame.{Frame}
use Rattle.crn_form_text.specs.declared.formula.Frame.TheVariants as frame
use Rattle.crn_form_text.specs.declared.formula.Item.{Item}
use Rattle.crn_form_text.specs.declared.formula.Item.TheVariants as item
use Rattle.crn_form_text.specs.Grammar.{Numeral, Whole, Over, numeral_tokens, minus_before, signed, fraction, SpellsSigned, SpellsFormula, call, pair}
use Rattle.crn_form_text.specs.Reading.{FormState, closed, form_next, no_entries, form_with, forms, mark_of, factor_value, keep, Mode, Want, Opens, Scales, InFactor, InForm, Have, Walk, at_mode, with_leaf, with_mode, opened, having, comma, close, walk_next, nothing_open, walks, whole_of}
use Rattle.crn_form_text.specs.Built.{postfix}
use Rattle.crn_form_text.proofs.Marks.{word_of}
use Rattle.crn_form_text.proofs.NumberLaws.{over_whole}
use Rattle.crn_form_text.proofs.FormLaws.{form_run}
use Rattle.crn_form_text.proofs.FormSpells.{terms_put}

-- where these tokens lead
abbrev Leads : ℕ → Walk → List Plain → Walk → Type 0
Leads k w tokens v = after (walks k) w (map mark_of tokens) ≡ Some v

leads_on : (k : ℕ) (w v u : Walk) (xs ys : List Plain) → Leads k w xs v → Leads k v ys u → Leads k w (xs ++ ys) u
leads_on k w v u xs ys first then = ap (after (walks k) w) (map-append mark_of xs ys) ∙ after_then (walks k) w v (map mark_of xs) (map mark_of ys) first ∙ then

-- after these tokens a formula is whole, which leads here
abbrev pub Runs : ℕ → Walk → List Plain → Walk → Type 0
Runs k w tokens h = (v : Walk) × Leads k w tokens v × (having k v.mode v ≡ Some h)

-- ---- leaves
no_sign : (k : ℕ) (p : Place) (es : List (Option ℚ)) (s : FormState) (m : Mark) → (m ≡ mark.Comma → form_next k p es m ≡ Some s → ⊥) × (m ≡ mark.Right → form_next k p es m ≡ Some s → ⊥)
no_sign k p es s m = (λ is e. none-some s (sym (comma_none p) ∙ ap (form_next k p es) (sym is) ∙ e), λ is e. none-some s (sym (right_none p) ∙ ap (form_next k p es) (sym is) ∙ e))
  where
    comma_none : (p : Place) → form_next k p es mark.Comma ≡ None
    comma_none place.Begin = refl
    comma_none (place.Term negative count.Empty) = refl
    comma_none (place.Term negative (count.Whole q)) = refl
    comma_none (place.Term negative (count.Over q)) = refl
    comma_none (place.Term negative (count.Quotient q)) = refl
    comma_none (place.Named v) = refl
    comma_none place.Ended = refl

    right_none : (p : Place) → form_next k p es mark.Right ≡ None
    right_none place.Begin = refl
    right_none (place.Term negative count.Empty) = refl
    right_none (place.Term negative (count.Whole q)) = refl
    right_none (place.Term negative (count.Over q)) = refl
    right_none (place.Term negative (count.Quotient q)) = refl
    right_none (place.Named v) = refl
    right_none place.Ended = refl

-- a token of a form
form_step : (k : ℕ) (p : Place) (es : List (Option ℚ)) (w : Walk) (m : Mark) (s : FormState) → form_next k p es m ≡ Some s → walk_next k (InForm p es) w m ≡ Some (with_mode w (InForm s.place s.entries))
form_step k p es w mark.Comma s e = absurd ((no_sign k p es s mark.Comma).0 refl e)
form_step k p es w mark.Right s e = absurd ((no_sign k p es s mark.Right).1 refl e)
form_step k p es w m s e = ap (option_map (λ (s : FormState). with_mode w (InForm s.place s.entries))) e

-- the first one
first_step : (k : ℕ) (w : Walk) (m : Mark) (s : FormState) → form_next k place.Begin no_entries m ≡ Some s → walk_next k Want w m ≡ Some (with_mode w (InForm s.place s.entries))
first_step k w (mark.Word o) s e = absurd (none-some s e)
first_step k w mark.Scale s e = absurd (none-some s e)
first_step k w m s e = ap (option_map (λ (s : FormState). with_mode w (InForm s.place s.entries))) e

in_form : (k : ℕ) (ts : List Plain) (s u : FormState) (w : Walk) → after (forms k) s (map mark_of ts) ≡ Some u → Leads k (with_mode w (InForm s.place s.entries)) ts (with_mode w (InForm u.place u.entries))
in_form k [] s u w there = ap (λ (v : FormState). Some (with_mode w (InForm v.place v.entries))) (same_Some s u there)
in_form k (t ∷ ts) s u w there = go (form_next k s.place s.entries (mark_of t)) refl (λ v there'. in_form k ts v u w there')
  where
    go : (o : Option FormState) → form_next k s.place s.entries (mark_of t) ≡ o → ((v : FormState) → after (forms k) v (map mark_of ts) ≡ Some u → Leads k (with_mode w (InForm v.place v.entries)) ts (with_mode w (InForm u.place u.entries)))
        → Leads k (with_mode w (InForm s.place s.entries)) (t ∷ ts) (with_mode w (InForm u.place u.entries))
    go None e again = absurd (none-some u (ap (option_and_then (λ v. after (forms k) v (map mark_of ts))) (sym e) ∙ there))
    go (Some v) e again =
        ap (option_and_then (λ v. after (walks k) v (map mark_of ts))) (form_step k s.place s.entries (with_mode w (InForm s.place s.entries)) (mark_of t) v e)
        ∙ again v (ap (option_and_then (λ v. after (forms k) v (map mark_of ts))) (sym e) ∙ there)

leaf_run : (k : ℕ) (ts : List Plain) (u : FormState) (es : List (Option ℚ)) (w : Walk) → after (forms k) (forms k).start (map mark_of ts) ≡ Some u → closed k u.place u.entries ≡ Some es
    → Runs k (with_mode w Want) ts (with_leaf k w (form_with (k + 1) es))
leaf_run k [] u es w there ends = absurd (none-some es (ap (λ (v : FormState). closed k v.place v.entries) (same_Some (forms k).start u there) ∙ ends))
leaf_run k (t ∷ ts) u es w there ends = go (form_next k place.Begin no_entries (mark_of t)) refl
  where
    go : (o : Option FormState) → form_next k place.Begin no_entries (mark_of t) ≡ o → Runs k (with_mode w Want) (t ∷ ts) (with_leaf k w (form_with (k + 1) es))
    go None e = absurd (none-some u (ap (option_and_then (λ v. after (forms k) v (map mark_of ts))) (sym e) ∙ there))
    go (Some v) e = (
      with_mode w (InForm u.place u.entries),
      ap (option_and_then (λ v. after (walks k) v (map mark_of ts))) (first_step k (with_mode w Want) (mark_of t) v e)
          ∙ in_form k ts v u w (ap (option_and_then (λ v. after (forms k) v (map mark_of ts))) (sym e) ∙ there),
      ap (option_map (λ es. with_leaf k w (form_with (k + 1) es))) ends,
    )

-- ---- operators
comma_next : (k : ℕ) (m : Mode) (w h : Walk) → having k m w ≡ Some h → walk_next k m w mark.Comma ≡ comma h.frames h
comma_next k Want w h e = absurd (none-some h e)
comma_next k (Opens o) w h e = absurd (none-some h e)
comma_next k Scales w h e = absurd (none-some h e)
comma_next k (InFactor p) w h e = absurd (none-some h e)
comma_next k (InForm p es) w h e = ap (option_and_then (λ (v : Walk). comma v.frames v)) e
comma_next k Have w h e = ap (option_and_then (λ (v : Walk). comma v.frames v)) e

close_next : (k : ℕ) (m : Mode) (w h : Walk) → having k m w ≡ Some h → walk_next k m w mark.Right ≡ close h.frames h
close_next k Want w h e = absurd (none-some h e)
close_next k (Opens o) w h e = absurd (none-some h e)
close_next k Scales w h e = absurd (none-some h e)
close_next k (InFactor p) w h e = absurd (none-some h e)
close_next k (InForm p es) w h e = ap (option_and_then (λ (v : Walk). close v.frames v)) e
close_next k Have w h e = ap (option_and_then (λ (v : Walk). close v.frames v)) e

one_more : (k : ℕ) (w v : Walk) (t : Plain) → walk_next k w.mode w (mark_of t) ≡ Some v → Leads k w (t ∷ []) v
one_more k w v t e = ap (option_and_then (λ (u : Walk). Some u)) e

opens_run : (k : ℕ) (o : Operator) (w : Walk) → Leads k (with_mode w Want) (PlainWord (word_of o) ∷ PlainSign LeftParen ∷ []) (opened w (frame.First o))
opens_run k operator.Add w = refl
opens_run k operator.Sub w = refl
opens_run k operator.Min w = refl
opens_run k operator.Max w = refl

-- the counts and what is kept
pub record Tally : Type 0 where
  pub items : List Item
  pub nodes : ℕ
  pub depth : ℕ
  pub affine : Bool

abbrev pub with_tally : Mode → List Frame → Tally → Walk
with_tally m frames c = at_mode m frames c.items c.nodes c.depth c.affine

abbrev and_item : Tally → Item → Tally
and_item c i = record { items = keep c.items i; nodes = c.nodes + 1; depth = c.depth; affine = c.affine }

binary_run : (k : ℕ) (o : Operator) (frames : List Frame) (c c1 c2 : Tally) (x y : List Plain) → Runs k (with_tally Want (frame.First o ∷ frames) c) x (with_tally Have (frame.First o ∷ frames) c1)
    → Runs k (with_tally Want (frame.Second o ∷ frames) c1) y (with_tally Have (frame.Second o ∷ frames) c2)
    → Runs k (with_tally Want frames c) (call (word_of o) (pair x y)) (with_tally Have frames (and_item c2 (item.Apply o)))
binary_run k o frames c c1 c2 x y (v1, e1, h1) (v2, e2, h2) =
    let s0 = with_tally Want frames c in
    let s1 = with_tally Want (frame.First o ∷ frames) c in
    let s2 = with_tally Want (frame.Second o ∷ frames) c1 in
    let s3 = with_tally Have frames (and_item c2 (item.Apply o)) in
    let to_comma = one_more k v1 s2 (PlainSign Comma) (comma_next k v1.mode v1 _ h1) in
    let to_close = one_more k v2 s3 (PlainSign RightParen) (close_next k v2.mode v2 _ h2) in
    let operands = leads_on k s1 s2 v2 (x ++ PlainSign Comma ∷ []) y (leads_on k s1 v1 s2 x (PlainSign Comma ∷ []) e1 to_comma) e2 in
    let all = leads_on k s0 s1 v2 (PlainWord (word_of o) ∷ PlainSign LeftParen ∷ []) (pair x y) (opens_run k o s0) operands in
    (s3, leads_on k s0 v2 s3 (PlainWord (word_of o) ∷ PlainSign LeftParen ∷ [] ++ pair x y) (PlainSign RightParen ∷ []) all to_close, refl)

factor_run : (k : ℕ) (negative : Bool) (n : Numeral) (w : Walk) → (p : Place) × Leads k (with_mode w (InFactor place.Begin)) (minus_before negative ++ numeral_tokens n) (with_mode w (InFactor p)) × (factor_value p ≡ Some (fraction negative n))
factor_run k true (Whole n) w = (place.Term true (count.Whole (whole (signed true n))), refl, refl)
factor_run k false (Whole n) w = (place.Term false (count.Whole (whole (signed false n))), refl, refl)
factor_run k true (Over n x) w = (place.Term true (count.Quotient (whole (whole (signed true n)).num /ℚ whole (pos (suc x)))), refl, ap Some (over_whole true n x))
factor_run k false (Over n x) w = (place.Term false (count.Quotient (whole (whole (signed false n)).num /ℚ whole (pos (suc x)))), refl, ap Some (over_whole false n x))

scale_run : (k : ℕ) (q : ℚ) (frames : List Frame) (c c1 : Tally) (n x : List Plain) → SpellsSigned q n → Runs k (with_tally Want (frame.Times q ∷ frames) c) x (with_tally Have (frame.Times q ∷ frames) c1)
    → Runs k (with_tally Want frames c) (call (codes "scale") (pair n x)) (with_tally Have frames (and_item c1 (item.Scale q)))
scale_run k q frames c c1 n x (negative, numeral, n_is, q_is) (v1, e1, h1) =
    let s0 = with_tally Want frames c in
    let s1 = with_tally (InFactor place.Begin) frames c in
    let s2 = with_tally Want (frame.Times q ∷ frames) c in
    let s3 = with_tally Have frames (and_item c1 (item.Scale q)) in
    let (p, e0, value) = factor_run k negative numeral s0 in
    let v0 = with_tally (InFactor p) frames c in
    let to_comma = one_more k v0 s2 (PlainSign Comma) (ap (option_map (λ q. opened v0 (frame.Times q))) (value ∙ ap Some (sym q_is))) in
    let to_close = one_more k v1 s3 (PlainSign RightParen) (close_next k v1.mode v1 _ h1) in
    let factor : Leads k s1 n v0 = ap (λ l. after (walks k) s1 (map mark_of l)) n_is ∙ e0 in
    let operands = leads_on k s1 s2 v1 (n ++ PlainSign Comma ∷ []) x (leads_on k s1 v0 s2 n (PlainSign Comma ∷ []) factor to_comma) e1 in
    let all = leads_on k s0 s1 v1 (PlainWord (codes "scale") ∷ PlainSign LeftParen ∷ []) (pair n x) refl operands in
    (s3, leads_on k s0 v1 s3 (PlainWord (codes "scale") ∷ PlainSign LeftParen ∷ [] ++ pair n x) (PlainSign RightParen ∷ []) all to_close, refl)

-- ---- formulas
-- what is kept of more nodes
abbrev pub kept : List Item → List Item → List Item
kept items [] = items
kept items (i ∷ more) = kept (keep items i) more

kept_append : (items xs ys : List Item) → kept items (xs ++ ys) ≡ kept (kept items xs) ys
kept_append items [] ys = refl
kept_append items (x ∷ xs) ys = kept_append (keep items x) xs ys

-- the counts with a formula more, within so many operators
abbrev pub and_formula : ℕ → ℕ → Tally → Formula → Tally
and_formula k outer c e = record {
  items = kept c.items (postfix e);
  nodes = c.nodes + node_count e;
  depth = max c.depth (outer + depth_of e);
  affine = formula_has_constant k e || c.affine;
}

or_swap : (a b c : Bool) → b || (a || c) ≡ (a || b) || c
or_swap true true c = refl
or_swap true false c = refl
or_swap false true c = refl
or_swap false false c = refl

tally_alike : (a b : Tally) → a.items ≡ b.items → a.nodes ≡ b.nodes → a.depth ≡ b.depth → a.affine ≡ b.affine → a ≡ b
tally_alike a b e f g h = λ i. record { items = e i; nodes = f i; depth = g i; affine = h i }

-- of two operands and their operator
binary_tally : (k outer : ℕ) (c : Tally) (o : Operator) (a b e : Formula) → postfix e ≡ postfix a ++ postfix b ++ item.Apply o ∷ [] → node_count e ≡ 1 + (node_count a + node_count b) → depth_of e ≡ 1 + max (depth_of a) (depth_of b)
    → formula_has_constant k e ≡ formula_has_constant k a || formula_has_constant k b → and_item (and_formula k (suc outer) (and_formula k (suc outer) c a) b) (item.Apply o) ≡ and_formula k outer c e
binary_tally k outer c o a b e items nodes depth affine =
    tally_alike _ _
    (sym (ap (kept c.items) items ∙ kept_append c.items (postfix a ++ postfix b) (item.Apply o ∷ []) ∙ ap (λ l. keep l (item.Apply o)) (kept_append c.items (postfix a) (postfix b))))
    (omega (arith, nodes)) (omega (arith, depth)) (or_swap (formula_has_constant k a) (formula_has_constant k b) c.affine ∙ ap (λ x. x || c.affine) (sym affine))

scale_tally : (k outer : ℕ) (c : Tally) (q : ℚ) (a : Formula) → and_item (and_formula k (suc outer) c a) (item.Scale q) ≡ and_formula k outer c (Scale q a)
scale_tally k outer c q a = tally_alike _ _ (sym (kept_append c.items (postfix a) (item.Scale q ∷ []))) (omega arith) (omega arith) refl

abbrev pub Counted : ℕ → Formula → List Plain → Type 0
Counted k e ts = (frames : List Frame) (c : Tally) → Runs k (with_tally Want frames c) ts (with_tally Have frames (and_formula k (length frames) c e))

binary_counted : (k : ℕ) (o : Operator) (a b e : Formula) (x y ts : List Plain) → postfix e ≡ postfix a ++ postfix b ++ item.Apply o ∷ [] → node_count e ≡ 1 + (node_count a + node_count b) → depth_of e ≡ 1 + max (depth_of a) (depth_of b)
    → formula_has_constant k e ≡ formula_has_constant k a || formula_has_constant k b → Counted k a x → Counted k b y → ts ≡ call (word_of o) (pair x y) → Counted k e ts
binary_counted k o a b e x y ts items nodes depth affine run_a run_b is frames c =
    let c1 = and_formula k (suc (length frames)) c a in
    let c2 = and_formula k (suc (length frames)) c1 b in
    let run = binary_run k o frames c c1 c2 x y (run_a (frame.First o ∷ frames) c) (run_b (frame.Second o ∷ frames) c1) in
    subst (λ t. Runs k (with_tally Want frames c) ts (with_tally Have frames t)) (binary_tally k (length frames) c o a b e items nodes depth affine)
    (subst (λ l. Runs k (with_tally Want frames c) l (with_tally Have frames (and_item c2 (item.Apply o)))) (sym is) run)

pub counted : (k : ℕ) (e : Formula) (ts : List Plain) → k ≤ 8 → SpellsFormula k e ts → Counted k e ts
counted k (Lin form) ts few (terms, are, is) frames c =
    let put = terms_put k form terms few are in
    let (u, there, ends) = form_run k terms put.0 are.some are.over put.1 in
    let run = leaf_run k ts u put.0 (with_tally Want frames c) (ap (λ l. after (forms k) (forms k).start (map mark_of l)) is ∙ there) ends in
    subst (λ f. Runs k (with_tally Want frames c) ts (with_leaf k (with_tally Want frames c) f)) (sym put.2) run
counted k (Add a b) ts few (x, y, sa, sb, is) frames c =
    binary_counted k operator.Add a b (Add a b) x y ts refl refl refl refl (counted k a x few sa) (counted k b y few sb) is frames c
counted k (Sub a b) ts few (x, y, sa, sb, is) frames c =
    binary_counted k operator.Sub a b (Sub a b) x y ts refl refl refl refl (counted k a x few sa) (counted k b y few sb) is frames c
counted k (Min a b) ts few (x, y, sa, sb, is) frames c =
    binary_counted k operator.Min a b (Min a b) x y ts refl refl refl refl (counted k a x few sa) (counted k b y few sb) is frames c
counted k (Max a b) ts few (x, y, sa, sb, is) frames c =
    binary_counted k operator.Max a b (Max a b) x y ts refl refl refl refl (counted k a x few sa) (counted k b y few sb) is frames c
counted k (Scale q a) ts few (n, x, sn, sa, is) frames c =
    let run = scale_run k q frames c (and_formula k (suc (length frames)) c a) n x sn (counted k a x few sa (frame.Times q ∷ frames) c) in
    subst (λ t. Runs k (with_tally Want frames c) ts (with_tally Have frames t)) (scale_tally k (length frames) c q a)
    (subst (λ l. Runs k (with_tally Want frames c) l (with_tally Have frames (and_item (and_formula k (suc (length frames)) c a) (item.Scale q)))) (sym is) run)

abbrev pub no_tally : Tally
no_tally = record { items = []; nodes = 0; depth = 0; affine = false }

-- the text of a formula is walked whole
pub walk_spelled : (k : ℕ) (e : Formula) (ts : List Plain) → k ≤ 8 → SpellsFormula k e ts → whole_of (walks k) (map mark_of ts) ≡ Some (with_tally Have [] (and_formula k 0 no_tally e))
walk_spelled k e ts few spells =
    let (v, there, has) = counted k e ts few spells [] no_tally in
    ap (option_and_then (walks k).whole) there ∙ ap (option_and_then (λ (h : Walk). nothing_open h.frames h)) has
