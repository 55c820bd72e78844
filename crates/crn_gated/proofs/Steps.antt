-- One line more of a gated function, and a text that is one.
use Rattle.std.proofs.Common.{◌≡◌, ℕ, Bool, true, false, cond, List, [], ◌∷◌, map, refl, sym, ◌∙◌, ap, subst}
use Rattle.crn_token.specs.declared.Line.{Line}
use Rattle.crn_token.specs.Plain.{PlainLine, plain_token, plain_line, line_number, end_of}
use Rattle.crn_token.specs.Words.{rest_of, says, begins}
use Rattle.crn_token.proofs.LineLaws.{rest_map, said_is}
use Rattle.crn_grammar.specs.declared.error.TextError.{TextError}
use Rattle.crn_grammar.specs.Table.{Read, Malformed}
use Rattle.crn_grammar.specs.Part.{Ends}
use Rattle.crn_grammar.specs.Reading.{Refuses, RefusesPart}
use Rattle.crn_grammar.proofs.Turns.{whole_answer, text_is_part, whole_refused}
use Rattle.crn_gated.specs.Grammar.{PlainGated, Place, Start, word_after, follow, next, goes_on, gated_table, part_of_lines, lines_answer}
use Rattle.crn_gated.proofs.GrammarLaws.{never_next, next_on}

-- the part goes on with the line where its tokens begin so
pub line_goes : (bytes : List ℕ) (line : Line) (s : Place) (b : Bool) → begins (word_after s) (map (plain_token bytes) (cond line.bad [] line.tokens.items)) ≡ b → goes_on s (plain_line bytes line) ≡ b
line_goes bytes line s b is = ap (begins (word_after s)) (sym (said_is bytes line)) ∙ is

-- what follows its first token is what follows in the line
pub rest_said : (bytes : List ℕ) (line : Line) (s : Place) → goes_on s (plain_line bytes line) ≡ true → follow s (map (plain_token bytes) (rest_of line.tokens.items)) ≡ next s (plain_line bytes line)
rest_said bytes line s on = go line.bad refl
  where
    go : (b : Bool) → line.bad ≡ b → follow s (map (plain_token bytes) (rest_of line.tokens.items)) ≡ next s (plain_line bytes line)
    go true bad =
        let off : goes_on s (plain_line bytes line) ≡ false = ap (λ b. begins (word_after s) (cond b [] (map (plain_token bytes) line.tokens.items))) bad in
        cc
    go false good =
        let said : says (plain_line bytes line) ≡ map (plain_token bytes) line.tokens.items = ap (λ b. cond b [] (map (plain_token bytes) line.tokens.items)) good in
        ap (follow s) (sym (rest_map (plain_token bytes) line.tokens.items) ∙ ap rest_of (sym said)) ∙ sym (next_on s (plain_line bytes line) on)

-- ---- a text is a part with nothing after it

-- the answer to lines that are a text, by its function part
text_answer : (bytes : List ℕ) (lines : List PlainLine) → lines_answer bytes lines ≡ whole_answer line_number (part_of_lines bytes lines)
text_answer bytes lines = text_is_part gated_table goes_on line_number (end_of bytes) never_next Start lines

pub text_read : (bytes : List ℕ) (lines left : List PlainLine) (f : PlainGated) → part_of_lines bytes lines ≡ Ends f left → left ≡ [] → lines_answer bytes lines ≡ Read f
text_read bytes lines left f is none = text_answer bytes lines ∙ ap (whole_answer line_number) (is ∙ ap (Ends f) none)

pub text_goes_on : (bytes : List ℕ) (lines left : List PlainLine) (f : PlainGated) (line : PlainLine) (rest : List PlainLine) → part_of_lines bytes lines ≡ Ends f left → left ≡ line ∷ rest
    → lines_answer bytes lines ≡ Malformed line.number
text_goes_on bytes lines left f line rest is more = text_answer bytes lines ∙ ap (whole_answer line_number) (is ∙ ap (Ends f) more)

pub text_refused : (bytes : List ℕ) (lines : List PlainLine) (e : TextError) → RefusesPart e (part_of_lines bytes lines) → Refuses e (lines_answer bytes lines)
text_refused bytes lines e is = subst (Refuses e) (sym (text_answer bytes lines)) (whole_refused line_number e (part_of_lines bytes lines) is)
