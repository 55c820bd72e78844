-- The lines of a text, one after another.
use Rattle.std.proofs.Common.{◌≡◌, ℕ, ◌+◌, ◌<◌, ◌≤◌, List, [], ◌∷◌, ◌++◌, length, drop, map, Option, Some, None, sym, refl, ap, ap₂, ◌∙◌, subst, arith, append_assoc, append-nil, drop-drop, length-drop, length-append, add-zero}
use Rattle.std.proofs.lemmas.List.{map-append, take-append-drop}
use Rattle.std.proofs.lemmas.List.Elements.{All-append, All-cons, All-nil}
use Rattle.std.proofs.lemmas.Grind.{flat_map-append}
use Rattle.std.specs.Prelude.{◌==◌, All, flat_map, Bool, true, false}
use Rattle.std.specs.List.{before_first, position_or_len}
use Rattle.crn_token.specs.declared.Token.{Token}
use Rattle.crn_token.specs.declared.Line.{Line}
use Rattle.crn_token.specs.declared.Lines.{Lines}
use Rattle.crn_token.specs.Lines.{Text, AreLinesOf, TokenLine, view, physical_lines, token_line, token_lines_from, tokens_from, without_comment}
use Rattle.crn_token.specs.Plain.{PlainLine, plain_token, plain_line, kept_line, plain_lines, plain_lines_from, plain_from}
use Rattle.crn_token.specs.Source.{read_if}
use Rattle.crn_token.specs.Spans.{AreInOrder, ArePlaced, IsPlaced, IsSpelled, line_tokens}
use Rattle.crn_token.proofs.Cut.{physical_step}
use Rattle.crn_token.proofs.PlainLaws.{plains, plains-tokens}
use Rattle.crn_token.proofs.SpelledLaws.{tokens_spelled}
use Rattle.crn_token.proofs.SpanLaws.{tokens_in_order, tokens_placed, in_order_later}

nil_cons : {A : Type 0} (x : A) (xs : List A) → [] ≡ x ∷ xs → ⊥
nil_cons x xs e = cc

cons_head : {A : Type 0} (x y : A) (xs ys : List A) → x ∷ xs ≡ y ∷ ys → x ≡ y
cons_head x y xs ys e = cc

cons_tail : {A : Type 0} (x y : A) (xs ys : List A) → x ∷ xs ≡ y ∷ ys → xs ≡ ys
cons_tail x y xs ys e = cc

-- what has a line has a byte
some_bytes : (rest line : List ℕ) (lines : List (List ℕ)) → physical_lines rest ≡ line ∷ lines → 0 < length rest
some_bytes [] line lines cut = absurd (nil_cons line lines cut)
some_bytes (b ∷ bs) line lines cut = omega arith

-- the first line is what stands before the first line feed
first_of : (rest line : List ℕ) (lines : List (List ℕ)) → physical_lines rest ≡ line ∷ lines → line ≡ before_first (λ b. b == 10) rest
first_of rest line lines cut = cons_head _ _ _ _ (sym cut ∙ physical_step rest (some_bytes rest line lines cut))

-- the others are the lines of what follows it
others_of : (rest line : List ℕ) (lines : List (List ℕ)) → physical_lines rest ≡ line ∷ lines → physical_lines (drop (length line + 1) rest) ≡ lines
others_of rest line lines cut =
    ap (λ l. physical_lines (drop (length l + 1) rest)) (first_of rest line lines cut)
    ∙ sym (cons_tail _ _ _ _ (sym cut ∙ physical_step rest (some_bytes rest line lines cut)))

-- what is before the first that passes, and the rest
parts : (mark : ℕ) (bs : List ℕ) → before_first (λ b. b == mark) bs ++ drop (position_or_len (λ b. b == mark) bs) bs ≡ bs
parts mark bs = take-append-drop (position_or_len (λ b. b == mark) bs) bs

-- a line without its comment stands at the front of the rest of the text
line_here : (rest line : List ℕ) → line ≡ before_first (λ b. b == 10) rest → (post : List ℕ) × (rest ≡ without_comment line ++ post)
line_here rest line is = (
  drop (position_or_len (λ b. b == 35) line) line ++ drop (position_or_len (λ b. b == 10) rest) rest,
  sym (parts 10 rest) ∙ ap (λ l. l ++ drop (position_or_len (λ b. b == 10) rest) rest) (sym is ∙ sym (parts 35 line))
      ∙ append_assoc (without_comment line) (drop (position_or_len (λ b. b == 35) line) line) (drop (position_or_len (λ b. b == 10) rest) rest),
)

-- the line feed after a line
next_here : (whole rest line : List ℕ) (at : ℕ) → drop at whole ≡ rest → drop (at + length line + 1) whole ≡ drop (length line + 1) rest
next_here whole rest line at here =
    let moved : at + length line + 1 ≡ at + (length line + 1) = omega arith in
    ap (λ n. drop n whole) moved ∙ sym (drop-drop (length line + 1) at whole) ∙ ap (drop (length line + 1)) here

abbrev tokens_in : TokenLine → List Token
tokens_in line = line.tokens

abbrev shown_line : List ℕ → TokenLine → PlainLine
shown_line whole line = record { number = line.number; bad = line.bad; tokens = map (plain_token whole) line.tokens }

kept_shown : (whole : List ℕ) (number : ℕ) (o : Option (List Token)) → map (shown_line whole) (token_line number o) ≡ kept_line number (plains whole o)
kept_shown whole number None = refl
kept_shown whole number (Some []) = refl
kept_shown whole number (Some (t ∷ ts)) = refl

lines_say : (whole : List ℕ) (lines : List (List ℕ)) (rest : List ℕ) (number at : ℕ) → physical_lines rest ≡ lines → drop at whole ≡ rest
    → map (shown_line whole) (token_lines_from number at lines) ≡ plain_lines_from number lines
lines_say whole [] rest number at cut here = refl
lines_say whole (line ∷ lines) rest number at cut here =
    let front = line_here rest line (first_of rest line lines cut) in
    let tokens : plains whole (tokens_from number 0 at (without_comment line)) ≡ plain_from 0 (without_comment line) = plains-tokens whole number (without_comment line) 0 at front.0 (here ∙ front.1) in
    map-append (shown_line whole) (token_line number (tokens_from number 0 at (without_comment line))) (token_lines_from (number + 1) (at + length line + 1) lines)
    ∙ ap₂ (λ (a b : List PlainLine). a ++ b) (kept_shown whole number _ ∙ ap (kept_line number) tokens)
    (lines_say whole lines (drop (length line + 1) rest) (number + 1) (at + length line + 1) (others_of rest line lines cut) (next_here whole rest line at here))

shown_view : (whole : List ℕ) (lines : List Line) → map (plain_line whole) lines ≡ map (shown_line whole) (map view lines)
shown_view whole [] = refl
shown_view whole (line ∷ lines) = ap (λ l. shown_line whole (view line) ∷ l) (shown_view whole lines)

-- the token lines of a text say what its physical lines say
pub text_says : (bytes : List ℕ) (lines : List Line) → map view lines ≡ token_lines_from 1 0 (physical_lines bytes) → map (plain_line bytes) lines ≡ plain_lines_from 1 (physical_lines bytes)
text_says bytes lines is = shown_view bytes lines ∙ ap (map (shown_line bytes)) is ∙ lines_say bytes (physical_lines bytes) bytes 1 0 refl refl

-- tokens up to an offset, and then tokens from it
in_order_append : (from mid to : ℕ) (xs ys : List Token) → AreInOrder from mid xs → AreInOrder mid to ys → AreInOrder from to (xs ++ ys)
in_order_append from mid to [] ys first second = in_order_later mid from to ys first second
in_order_append from mid to (t ∷ ts) ys first second = (first.0, first.1, in_order_append _ mid to ts ys first.2 second)

line_in_order : (number from to : ℕ) (o : Option (List Token)) → from ≤ to → ((ts : List Token) → o ≡ Some ts → AreInOrder from to ts) → AreInOrder from to (flat_map tokens_in (token_line number o))
line_in_order number from to None short order = short
line_in_order number from to (Some []) short order = short
line_in_order number from to (Some (t ∷ ts)) short order = subst (AreInOrder from to) (sym (append-nil (t ∷ ts))) (order (t ∷ ts) refl)

-- where no line follows, the order ends at the end of the text
goes_on : (number next mid to : ℕ) (lines : List (List ℕ)) → mid ≤ to → mid ≤ next → (0 < length lines → AreInOrder next to (flat_map tokens_in (token_lines_from number next lines))) → AreInOrder mid to (flat_map tokens_in (token_lines_from number next lines))
goes_on number next mid to [] ends later order = ends
goes_on number next mid to (line ∷ lines) ends later order = in_order_later next mid to _ later (order (omega arith))

lines_in_order : (lines : List (List ℕ)) (rest : List ℕ) (number at to : ℕ) → physical_lines rest ≡ lines → to ≡ at + length rest → AreInOrder at to (flat_map tokens_in (token_lines_from number at lines))
lines_in_order [] rest number at to cut to_is = omega arith
lines_in_order (line ∷ lines) rest number at to cut to_is =
    let front = line_here rest line (first_of rest line lines cut) in
    let plain = without_comment line in
    let o = tokens_from number 0 at (without_comment line) in
    let short : length (without_comment line) ≤ length line = omega (arith, ap length (parts 35 line), length-append (without_comment line) (drop (position_or_len (λ b. b == 35) line) line)) in
    let fits : length line ≤ length rest = omega (arith, ap length (parts 10 rest), ap length (first_of rest line lines cut), length-append (before_first (λ b. b == 10) rest) (drop (position_or_len (λ b. b == 10) rest) rest)) in
    let mid = at + length (without_comment line) in
    let more : 0 < length lines → to ≡ at + length line + 1 + length (drop (length line + 1) rest) =
    λ some. omega (arith, length-drop (length line + 1) rest, some_others rest line lines cut some) in
    rw (flat_map-append tokens_in (token_line number o) (token_lines_from (number + 1) (at + length line + 1) lines)) (
    in_order_append at mid to (flat_map tokens_in (token_line number o)) (flat_map tokens_in (token_lines_from (number + 1) (at + length line + 1) lines))
    (line_in_order number at mid o (omega arith) (λ ts e. subst (λ (n : ℕ). AreInOrder n mid ts) (add-zero at) (tokens_in_order number plain 0 at mid ts (omega arith) refl e)))
    (goes_on (number + 1) (at + length line + 1) mid to lines (omega arith) (omega arith)
    (λ some. lines_in_order lines (drop (length line + 1) rest) (number + 1) (at + length line + 1) to (others_of rest line lines cut) (more some)))
    )
  where
    some_of : (bs : List ℕ) (ls : List (List ℕ)) → physical_lines bs ≡ ls → 0 < length ls → 0 < length bs
    some_of bs [] is some = absurd (omega arith)
    some_of bs (l ∷ ls) is some = some_bytes bs l ls is

    some_others : (rest line : List ℕ) (lines : List (List ℕ)) → physical_lines rest ≡ line ∷ lines → 0 < length lines → 0 < length (drop (length line + 1) rest)
    some_others rest line lines cut some = some_of _ lines (others_of rest line lines cut) some

tokens_view : (lines : List Line) → flat_map line_tokens lines ≡ flat_map tokens_in (map view lines)
tokens_view [] = refl
tokens_view (line ∷ lines) = ap (λ l. line_tokens line ++ l) (tokens_view lines)

-- the tokens of a text stand in it one after another
pub text_in_order : (bytes : List ℕ) (lines : List Line) → map view lines ≡ token_lines_from 1 0 (physical_lines bytes) → AreInOrder 0 (length bytes) (flat_map line_tokens lines)
text_in_order bytes lines is =
    subst (AreInOrder 0 (length bytes)) (sym (tokens_view lines ∙ ap (flat_map tokens_in) is)) (lines_in_order (physical_lines bytes) bytes 1 0 (length bytes) refl (omega arith))

line_spelled : (whole : List ℕ) (number : ℕ) (o : Option (List Token)) → ((ts : List Token) → o ≡ Some ts → All (IsSpelled whole) ts) → All (IsSpelled whole) (flat_map tokens_in (token_line number o))
line_spelled whole number None spelled = All-nil (IsSpelled whole)
line_spelled whole number (Some []) spelled = All-nil (IsSpelled whole)
line_spelled whole number (Some (t ∷ ts)) spelled = subst (All (IsSpelled whole)) (sym (append-nil (t ∷ ts))) (spelled (t ∷ ts) refl)

lines_spelled : (whole : List ℕ) (lines : List (List ℕ)) (rest : List ℕ) (number at : ℕ) → physical_lines rest ≡ lines → drop at whole ≡ rest → All (IsSpelled whole) (flat_map tokens_in (token_lines_from number at lines))
lines_spelled whole [] rest number at cut here = All-nil (IsSpelled whole)
lines_spelled whole (line ∷ lines) rest number at cut here =
    let front = line_here rest line (first_of rest line lines cut) in
    let o = tokens_from number 0 at (without_comment line) in
    rw (flat_map-append tokens_in (token_line number o) (token_lines_from (number + 1) (at + length line + 1) lines)) (
    All-append (IsSpelled whole) (flat_map tokens_in (token_line number o)) (flat_map tokens_in (token_lines_from (number + 1) (at + length line + 1) lines))
    (line_spelled whole number o (λ ts e. tokens_spelled whole number (without_comment line) 0 at front.0 ts (here ∙ front.1) e))
    (lines_spelled whole lines (drop (length line + 1) rest) (number + 1) (at + length line + 1) (others_of rest line lines cut) (next_here whole rest line at here))
    )

-- each token of a text is what the bytes of its span spell
pub text_spelled : (bytes : List ℕ) (lines : List Line) → map view lines ≡ token_lines_from 1 0 (physical_lines bytes) → All (IsSpelled bytes) (flat_map line_tokens lines)
text_spelled bytes lines is =
    subst (All (IsSpelled bytes)) (sym (tokens_view lines ∙ ap (flat_map tokens_in) is)) (lines_spelled bytes (physical_lines bytes) bytes 1 0 refl refl)

-- each line's tokens are placed in it
abbrev AllPlaced : ℕ → List TokenLine → Type 0
AllPlaced size [] = Unit {0}
AllPlaced size (line ∷ lines) = ArePlaced line.number size line.tokens × AllPlaced size lines

line_placed : (number size : ℕ) (o : Option (List Token)) (more : List TokenLine) → ((ts : List Token) → o ≡ Some ts → ArePlaced number size ts) → AllPlaced size more → AllPlaced size (token_line number o ++ more)
line_placed number size None more on rest = (tt, rest)
line_placed number size (Some []) more on rest = rest
line_placed number size (Some (t ∷ ts)) more on rest = (on (t ∷ ts) refl, rest)

lines_placed : (lines : List (List ℕ)) (rest : List ℕ) (number at size : ℕ) → physical_lines rest ≡ lines → (0 < length rest → at + length rest ≤ size) → AllPlaced size (token_lines_from number at lines)
lines_placed [] rest number at size cut fits = tt
lines_placed (line ∷ lines) rest number at size cut fits =
    let front = line_here rest line (first_of rest line lines cut) in
    let within : at + length rest ≤ size = fits (some_bytes rest line lines cut) in
    let inside : at + length (without_comment line) ≤ size = omega (arith, within, ap length front.1, length-append (without_comment line) front.0) in
    line_placed number size _ _ (λ ts e. tokens_placed number size (without_comment line) 0 at ts inside e)
    (lines_placed lines (drop (length line + 1) rest) (number + 1) (at + length line + 1) size (others_of rest line lines cut)
    (λ some. omega (arith, within, some, length-drop (length line + 1) rest)))

all_placed : (size : ℕ) (lines : List Line) → AllPlaced size (map view lines) → All (IsPlaced size) lines
all_placed size [] placed = All-nil (IsPlaced size)
all_placed size (line ∷ lines) placed = All-cons (IsPlaced size) line lines placed.0 (all_placed size lines placed.1)

-- each token names the line that it stands in, and lies in the text
pub text_placed : (bytes : List ℕ) (lines : List Line) → map view lines ≡ token_lines_from 1 0 (physical_lines bytes) → All (IsPlaced (length bytes)) lines
text_placed bytes lines is = all_placed (length bytes) lines (subst (AllPlaced (length bytes)) (sym is) (lines_placed (physical_lines bytes) bytes 1 0 (length bytes) refl (λ some. omega arith)))

lines_of : (bytes : List ℕ) (lines : Lines) → AreLinesOf bytes lines → map view lines.lines.items ≡ token_lines_from 1 0 (physical_lines bytes)
lines_of bytes lines are = ap (λ (t : Text). t.lines) are

-- the same of the token lines of these bytes
pub are_lines_say : (bytes : List ℕ) (lines : Lines) → AreLinesOf bytes lines → map (plain_line bytes) lines.lines.items ≡ plain_lines bytes
are_lines_say bytes lines are = text_says bytes lines.lines.items (lines_of bytes lines are)

-- what a walk has read says what stood there
pub lines_are_said : (text rest after : List ℕ) (number at next to : ℕ) (kept : Bool) (line : Line) → drop at text ≡ rest → drop to text ≡ after
    → read_if kept (view line) ++ token_lines_from next to (physical_lines after) ≡ token_lines_from number at (physical_lines rest)
    → read_if kept (plain_line text line) ++ plain_lines_from next (physical_lines after) ≡ plain_lines_from number (physical_lines rest)
lines_are_said text rest after number at next to kept line here there same =
    ap₂ (λ (a b : List PlainLine). a ++ b) (shown kept) (sym (lines_say text (physical_lines after) after next to refl there))
    ∙ sym (map-append (shown_line text) (read_if kept (view line)) (token_lines_from next to (physical_lines after)))
    ∙ ap (map (shown_line text)) same ∙ lines_say text (physical_lines rest) rest number at refl here
  where
    shown : (b : Bool) → read_if b (plain_line text line) ≡ map (shown_line text) (read_if b (view line))
    shown true = refl
    shown false = refl
