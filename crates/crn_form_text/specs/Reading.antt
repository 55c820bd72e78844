-- How numbers, forms and formulas are read, one token after another.
use Rattle.std.specs.Prelude.{ℕ, zero, suc, ◌+◌, max, nat_lt, pos, Bool, true, false, ◌||◌, if◌then◌else◌, List, [], ◌∷◌, ◌++◌, length, map, take, replicate, Option, Some, None, is_none, unwrap_or, slice_index_or, slice_set, codes}
use Rattle.std.specs.Option.{option_map, option_and_then, option_map_or}
use Rattle.std.specs.Str.{bytes_eq}
use Rattle.crn_token.specs.declared.Sign.{Sign}
use Rattle.crn_token.specs.declared.Sign.TheVariants.{LeftParen, RightParen, Comma, Plus, Minus, Slash}
use Rattle.crn_token.specs.Plain.{Plain, PlainWord, PlainNumber, PlainSign}
use Rattle.crn_grammar.specs.Table.{Table, after}
use Rattle.crn_fraction.specs.Rational.{ℚ, whole, 0ℚ, ◌/ℚ◌}
use Rattle.crn_formula.specs.Formulas.{has_constant}
use Rattle.crn_form_text.specs.declared.mark.Operator.{Operator}
use Rattle.crn_form_text.specs.declared.mark.Operator.TheVariants as operator
use Rattle.crn_form_text.specs.declared.mark.Mark.{Mark}
use Rattle.crn_form_text.specs.declared.mark.Mark.TheVariants as mark
use Rattle.crn_form_text.specs.declared.number.Count.{Count}
use Rattle.crn_form_text.specs.declared.number.Count.TheVariants as count
use Rattle.crn_form_text.specs.declared.form.Place.{Place}
use Rattle.crn_form_text.specs.declared.form.Place.TheVariants as place
use Rattle.crn_form_text.specs.declared.formula.Frame.{Frame}
use Rattle.crn_form_text.specs.declared.formula.Frame.TheVariants as frame
use Rattle.crn_form_text.specs.declared.formula.Item.{Item}
use Rattle.crn_form_text.specs.declared.formula.Item.TheVariants as item
use Rattle.crn_form_text.specs.Grammar.{signed, fraction, Whole, Over}

-- ---- tokens, as far as the grammar tells them apart
abbrev pub word_mark : List ℕ → Mark
word_mark w =
    if bytes_eq w (codes "x") then mark.X
    else (if bytes_eq w (codes "add") then mark.Word operator.Add
    else (if bytes_eq w (codes "sub") then mark.Word operator.Sub
    else (if bytes_eq w (codes "min") then mark.Word operator.Min
    else (if bytes_eq w (codes "max") then mark.Word operator.Max
    else (if bytes_eq w (codes "scale") then mark.Scale
    else mark.Other)))))

abbrev pub sign_mark : Sign → Mark
sign_mark LeftParen = mark.Left
sign_mark RightParen = mark.Right
sign_mark Comma = mark.Comma
sign_mark Plus = mark.Plus
sign_mark Minus = mark.Minus
sign_mark Slash = mark.Slash
sign_mark _ = mark.Other

abbrev pub mark_of : Plain → Mark
mark_of (PlainWord w) = word_mark w
mark_of (PlainNumber n) = mark.Number n
mark_of (PlainSign sign) = sign_mark sign

-- ---- numbers
-- the number below a `/`, less 1, where both begin the tokens
abbrev pub denominator_at : List Plain → Option ℕ
denominator_at (PlainSign Slash ∷ PlainNumber (pos (suc e)) ∷ tokens) = Some e
denominator_at _ = None

-- the longest number that begins with this one, and how many tokens it has
abbrev pub fraction_after : ℕ → List Plain → ℚ × ℕ
fraction_after n tokens = option_map_or (λ e. (fraction false (Over n e), 3)) (denominator_at tokens) (fraction false (Whole n), 1)

-- the longest number that begins the tokens, and how many tokens it has
abbrev pub fraction_at : List Plain → Option (ℚ × ℕ)
fraction_at (PlainNumber (pos n) ∷ tokens) = Some (fraction_after n tokens)
fraction_at _ = None

-- a number with its sign after a token more, if it is allowed
abbrev pub count_next : (negative : Bool) → Count → Mark → Option Count
count_next negative count.Empty (mark.Number (pos n)) = Some (count.Whole (whole (signed negative n)))
count_next negative (count.Whole q) mark.Slash = Some (count.Over q)
count_next negative (count.Over q) (mark.Number (pos (suc e))) = Some (count.Quotient (whole q.num /ℚ whole (pos (suc e))))
count_next negative c m = None

-- the number, if it may end there
abbrev pub count_value : Count → Option ℚ
count_value (count.Whole q) = Some q
count_value (count.Quotient q) = Some q
count_value _ = None

-- the coefficient before a variable
abbrev pub factor_of : (negative : Bool) → Count → Option ℚ
factor_of negative count.Empty = Some (whole (signed negative 1))
factor_of negative (count.Whole q) = Some q
factor_of negative (count.Over q) = None
factor_of negative (count.Quotient q) = Some q

-- ---- forms
-- what stands in each column so far, in nine places
pub record FormState : Type 0 where
  pub place : Place
  pub entries : List (Option ℚ)

abbrev pub at_place : Place → List (Option ℚ) → FormState
at_place p entries = record { place = p; entries = entries }

-- a term more, if its column is free
abbrev pub put : List (Option ℚ) → ℕ → ℚ → Option (List (Option ℚ))
put entries column q = if is_none (slice_index_or entries column None) then Some (slice_set entries column (Some q)) else None

-- the entries after the last term, if the form may end there
abbrev pub closed : ℕ → Place → List (Option ℚ) → Option (List (Option ℚ))
closed k place.Ended entries = Some entries
closed k (place.Term negative c) entries = option_and_then (λ q. put entries k q) (count_value c)
closed k _ entries = None

abbrev pub term_next : (negative : Bool) → Count → List (Option ℚ) → Mark → Option FormState
term_next negative c entries mark.X = option_map (λ q. at_place (place.Named q) entries) (factor_of negative c)
term_next negative c entries m = option_map (λ d. at_place (place.Term negative d) entries) (count_next negative c m)

abbrev pub name_next : ℕ → ℚ → List (Option ℚ) → Mark → Option FormState
name_next k q entries (mark.Number (pos (suc column))) = if nat_lt column k then option_map (λ es. at_place place.Ended es) (put entries column q) else None
name_next k q entries _ = None

abbrev pub in_term_next : ℕ → Place → List (Option ℚ) → Mark → Option FormState
in_term_next k place.Begin entries m = term_next false count.Empty entries m
in_term_next k (place.Term negative c) entries m = term_next negative c entries m
in_term_next k (place.Named q) entries m = name_next k q entries m
in_term_next k p entries m = None

abbrev pub form_next : ℕ → Place → List (Option ℚ) → Mark → Option FormState
form_next k place.Begin entries mark.Minus = Some (at_place (place.Term true count.Empty) entries)
form_next k p entries mark.Minus = option_map (λ es. at_place (place.Term true count.Empty) es) (closed k p entries)
form_next k p entries mark.Plus = option_map (λ es. at_place (place.Term false count.Empty) es) (closed k p entries)
form_next k p entries m = in_term_next k p entries m

abbrev pub no_entries : List (Option ℚ)
no_entries = replicate 9 None

-- the form of what stands in its columns
abbrev pub form_with : ℕ → List (Option ℚ) → List ℚ
form_with columns entries = take columns (map (λ e. unwrap_or e 0ℚ) entries)

abbrev pub forms : ℕ → Table FormState Mark (List ℚ) (Unit {0})
forms k = record {
  start = at_place place.Begin no_entries;
  next = λ s m. form_next k s.place s.entries m;
  whole = λ s. option_map (form_with (k + 1)) (closed k s.place s.entries);
  limit = λ s. None;
}

-- the value of tokens that may be all of a text
abbrev pub whole_of : {S L F : Type 0} → Table S L F (Unit {0}) → List L → Option F
whole_of table tokens = option_and_then table.whole (after table table.start tokens)

-- the form over k variables that the tokens spell
abbrev pub form_of : ℕ → List Plain → Option (List ℚ)
form_of k tokens = whole_of (forms k) (map mark_of tokens)

-- ---- forms without negative coefficients
abbrev pub plain_next : ℕ → Place → List (Option ℚ) → Mark → Option FormState
plain_next k p entries mark.Minus = None
plain_next k place.Ended entries mark.Plus = Some (at_place (place.Term false count.Empty) entries)
plain_next k p entries mark.Plus = None
plain_next k p entries m = in_term_next k p entries m

abbrev pub plain_whole : ℕ → Place → List (Option ℚ) → Option (List ℚ)
plain_whole k place.Ended entries = Some (form_with k entries)
plain_whole k _ entries = None

abbrev pub plain_forms : ℕ → Table FormState Mark (List ℚ) (Unit {0})
plain_forms k = record {
  start = at_place place.Begin no_entries;
  next = λ s m. plain_next k s.place s.entries m;
  whole = λ s. plain_whole k s.place s.entries;
  limit = λ s. None;
}

-- a text that ends after so many tokens, or what was found before it
abbrev pub or_before : {F : Type 0} → ℕ → Option (F × ℕ) → Option F → Option (F × ℕ)
or_before count found None = found
or_before count found (Some f) = Some (f, count)

-- The longest text that begins the tokens, with how many tokens it has, or else what was found before. So many tokens stand before these.
abbrev pub longest_from : {S L F : Type 0} → Table S L F (Unit {0}) → ℕ → Option (F × ℕ) → S → List L → Option (F × ℕ)
longest_from table count found s [] = found
longest_from table count found s (t ∷ tokens) =
    option_map_or (λ u. longest_from table (count + 1) (or_before (count + 1) found (table.whole u)) u tokens) (table.next s t) found

-- the zero form, if the first token is the number 0
abbrev pub zero_at : ℕ → List Mark → Option (List ℚ × ℕ)
zero_at k (mark.Number (pos zero) ∷ tokens) = Some (form_with k no_entries, 1)
zero_at k _ = None

-- the longest form without negative coefficients that begins the tokens, and how many tokens it has
abbrev pub plain_form_at : ℕ → List Plain → Option (List ℚ × ℕ)
plain_form_at k tokens = longest_from (plain_forms k) 0 (zero_at k (map mark_of tokens)) (plain_forms k).start (map mark_of tokens)

-- the same, where the tokens begin at this index
abbrev pub placed_at : ℕ → List ℚ × ℕ → List ℚ × ℕ
placed_at from found = (found.0, from + found.1)

-- ---- formulas
-- what is expected next, or read just now
pub data Mode : Type 0 where
  -- a formula
  Want : Mode
  -- the `(` of an operator, or of `scale`
  Opens : Operator → Mode
  Scales : Mode
  -- within the fraction of `scale`
  InFactor : Place → Mode
  -- within a form
  InForm : Place → List (Option ℚ) → Mode
  -- a formula that is whole
  Have : Mode

-- a walk over the tokens of a formula: what is open around the place, the innermost first; the operators and forms so far, each
-- after its operands, as far as they are kept; and the counts
pub record Walk : Type 0 where
  pub mode : Mode
  pub frames : List Frame
  pub items : List Item
  pub nodes : ℕ
  pub depth : ℕ
  pub affine : Bool

abbrev pub at_mode : Mode → List Frame → List Item → ℕ → ℕ → Bool → Walk
at_mode m frames items nodes depth affine = record { mode = m; frames = frames; items = items; nodes = nodes; depth = depth; affine = affine }

-- no more than a function may have is kept
abbrev pub keep : List Item → Item → List Item
keep items i = if nat_lt (length items) 2048 then items ++ i ∷ [] else items

abbrev pub number_next : (negative : Bool) → Count → Mark → Option Place
number_next negative c m = option_map (λ d. place.Term negative d) (count_next negative c m)

abbrev pub factor_next : Place → Mark → Option Place
factor_next place.Begin mark.Minus = Some (place.Term true count.Empty)
factor_next place.Begin m = number_next false count.Empty m
factor_next (place.Term negative c) m = number_next negative c m
factor_next _ m = None

abbrev pub factor_value : Place → Option ℚ
factor_value (place.Term negative c) = count_value c
factor_value _ = None

-- after the end of a node
abbrev pub with_item : Walk → Item → Walk
with_item w i = at_mode Have w.frames (keep w.items i) (w.nodes + 1) w.depth w.affine

-- after the end of a leaf
abbrev pub with_leaf : ℕ → Walk → List ℚ → Walk
with_leaf k w form = at_mode Have w.frames (keep w.items (item.Leaf form)) (w.nodes + 1) (max w.depth (length w.frames + 1)) (has_constant k form || w.affine)

-- where a formula is whole
abbrev pub having : ℕ → Mode → Walk → Option Walk
having k Have w = Some w
having k (InForm p entries) w = option_map (λ es. with_leaf k w (form_with (k + 1) es)) (closed k p entries)
having k _ w = None

-- a `,` after the first operand
abbrev pub comma : List Frame → Walk → Option Walk
comma (frame.First o ∷ frames) w = Some (at_mode Want (frame.Second o ∷ frames) w.items w.nodes w.depth w.affine)
comma _ w = None

-- a `)` after the last one
abbrev pub close : List Frame → Walk → Option Walk
close (frame.Second o ∷ frames) w = Some (at_mode Have frames (keep w.items (item.Apply o)) (w.nodes + 1) w.depth w.affine)
close (frame.Times q ∷ frames) w = Some (at_mode Have frames (keep w.items (item.Scale q)) (w.nodes + 1) w.depth w.affine)
close _ w = None

abbrev pub with_mode : Walk → Mode → Walk
with_mode w m = at_mode m w.frames w.items w.nodes w.depth w.affine

abbrev pub opened : Walk → Frame → Walk
opened w f = at_mode Want (f ∷ w.frames) w.items w.nodes w.depth w.affine

abbrev pub want_next : ℕ → Walk → Mark → Option Walk
want_next k w (mark.Word o) = Some (with_mode w (Opens o))
want_next k w mark.Scale = Some (with_mode w Scales)
want_next k w m = option_map (λ s. with_mode w (InForm s.place s.entries)) (form_next k place.Begin no_entries m)

abbrev pub in_factor_next : Place → Walk → Mark → Option Walk
in_factor_next p w mark.Comma = option_map (λ q. opened w (frame.Times q)) (factor_value p)
in_factor_next p w m = option_map (λ p. with_mode w (InFactor p)) (factor_next p m)

abbrev pub in_form_next : ℕ → Mode → Walk → Mark → Option Walk
in_form_next k (InForm p entries) w m = option_map (λ s. with_mode w (InForm s.place s.entries)) (form_next k p entries m)
in_form_next k _ w m = None

abbrev pub after_form : ℕ → Mode → Walk → Mark → Option Walk
after_form k m w mark.Comma = option_and_then (λ v. comma v.frames v) (having k m w)
after_form k m w mark.Right = option_and_then (λ v. close v.frames v) (having k m w)
after_form k m w t = in_form_next k m w t

abbrev pub walk_next : ℕ → Mode → Walk → Mark → Option Walk
walk_next k Want w m = want_next k w m
walk_next k (Opens o) w mark.Left = Some (opened w (frame.First o))
walk_next k (Opens o) w m = None
walk_next k Scales w mark.Left = Some (with_mode w (InFactor place.Begin))
walk_next k Scales w m = None
walk_next k (InFactor p) w m = in_factor_next p w m
walk_next k mode w m = after_form k mode w m

-- the formula is whole, and nothing is open
abbrev pub nothing_open : List Frame → Walk → Option Walk
nothing_open [] w = Some w
nothing_open _ w = None

abbrev pub walk_start : Walk
walk_start = at_mode Want [] [] 0 0 false

abbrev pub walks : ℕ → Table Walk Mark Walk (Unit {0})
walks k = record {
  start = walk_start;
  next = λ w m. walk_next k w.mode w m;
  whole = λ w. option_and_then (λ v. nothing_open v.frames v) (having k w.mode w);
  limit = λ w. None;
}
