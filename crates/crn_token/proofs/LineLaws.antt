-- The lines of a text and their tokens, as a reader of lines goes along them.
use Rattle.std.proofs.Common.{◌≡◌, ℕ, suc, ◌+◌, ◌<◌, ◌≤◌, Bool, true, false, cond, List, [], ◌∷◌, length, get_or, drop, map, refl, sym, ◌∙◌, ap, ap₂, arith, add-one, drop-cons}
use Rattle.std.proofs.lemmas.List.{drop-map, drop_all, length-map}
use Rattle.std.specs.Prelude.{◌==◌}
use Rattle.crn_token.specs.declared.Line.{Line}
use Rattle.crn_token.specs.declared.Lines.{Lines}
use Rattle.crn_token.specs.Lines.{Text, AreLinesOf, physical_lines, onto_line}
use Rattle.crn_token.specs.Plain.{plain_token, plain_line, plain_lines}
use Rattle.crn_token.specs.Words.{rest_of, says}
use Rattle.crn_token.proofs.TextLaws.{are_lines_say}

-- ---- tokens of a line
pub rest_map : {A B : Type 0} (f : A → B) (ts : List A) → rest_of (map f ts) ≡ map f (rest_of ts)
rest_map f [] = refl
rest_map f (t ∷ ts) = refl

-- what the tokens that are read of a line say
pub said_is : (bytes : List ℕ) (line : Line) → map (plain_token bytes) (cond line.bad [] line.tokens.items) ≡ says (plain_line bytes line)
said_is bytes line = go line.bad
  where
    go : (b : Bool) → map (plain_token bytes) (cond b [] line.tokens.items) ≡ cond b [] (map (plain_token bytes) line.tokens.items)
    go true = refl
    go false = refl

-- ---- lines of a text
pub count_is : (bytes : List ℕ) (lines : Lines) → AreLinesOf bytes lines → lines.count ≡ length (physical_lines bytes)
count_is bytes lines are = ap (λ (text : Text). text.count) are

pub line_at : (bytes : List ℕ) (lines : Lines) (i : ℕ) (line : Line) → AreLinesOf bytes lines → i < length lines.lines.items → line ≡ get_or lines.lines.items i line
    → drop i (plain_lines bytes) ≡ plain_line bytes line ∷ drop (i + 1) (plain_lines bytes)
line_at bytes lines i line are within is =
    let say = are_lines_say bytes lines are in
    ap (drop i) (sym say) ∙ drop-map (plain_line bytes) i lines.lines.items ∙ ap (map (plain_line bytes)) (drop-cons lines.lines.items i line within)
    ∙ ap₂ (λ a b. plain_line bytes a ∷ b) (sym is) (sym (drop-map (plain_line bytes) (suc i) lines.lines.items) ∙ ap₂ drop (sym (add-one i)) say)

pub past_lines : (bytes : List ℕ) (lines : Lines) (i : ℕ) → AreLinesOf bytes lines → length lines.lines.items ≤ i → drop i (plain_lines bytes) ≡ []
past_lines bytes lines i are past = drop_all i (plain_lines bytes) (omega (arith, past, ap length (are_lines_say bytes lines are), length-map lines.lines.items (plain_line bytes)))

onto_one : (b : ℕ) (lines : List (List ℕ)) → length (onto_line b lines) ≤ length lines + 1
onto_one b [] = omega arith
onto_one b (line ∷ lines) = omega arith

-- a text has no more lines than bytes
pub lines_within : (bytes : List ℕ) → length (physical_lines bytes) ≤ length bytes
lines_within [] = omega arith
lines_within (b ∷ bs) = go (b == 10) (lines_within bs)
  where
    go : (x : Bool) → length (physical_lines bs) ≤ length bs → length (cond x ([] ∷ physical_lines bs) (onto_line b (physical_lines bs))) ≤ length (b ∷ bs)
    go true fewer = omega arith
    go false fewer = omega (arith, onto_one b (physical_lines bs), fewer)
