-- One line more of a function part, and a text that is a function part.
use Rattle.std.proofs.Common.{◌≡◌, ℕ, Bool, true, false, cond, List, [], ◌∷◌, map, None, refl, sym, ◌∙◌, ap, subst}
use Rattle.crn_token.specs.declared.Line.{Line}
use Rattle.crn_token.specs.Plain.{PlainLine, plain_token, plain_line, line_number, end_of}
use Rattle.crn_token.specs.Words.{rest_of, says}
use Rattle.crn_token.proofs.LineLaws.{rest_map, said_is}
use Rattle.crn_grammar.specs.declared.error.TextError.{TextError}
use Rattle.crn_grammar.specs.Table.{Read, Malformed}
use Rattle.crn_grammar.specs.Part.{Ends}
use Rattle.crn_grammar.specs.Reading.{Refuses, RefusesPart}
use Rattle.crn_grammar.proofs.Turns.{whole_answer, text_is_part, whole_refused}
use Rattle.crn_function_text.specs.declared.words.Word.{Word}
use Rattle.crn_function_text.specs.declared.words.Word.TheVariants as word
use Rattle.crn_function_text.specs.declared.words.Given.TheVariants as given
use Rattle.crn_function_text.specs.Words.{first_word}
use Rattle.crn_function_text.specs.Grammar.{PlainFunction, Place, Start, Header, Sized, Valued, InPieces, InForms, follow, allows, next, goes_on, function_table, part_of_lines, lines_answer}
use Rattle.crn_function_text.proofs.GrammarLaws.{not_followed}

-- ---- the tokens of a line
pub never_other : (s : Place) → allows s word.Other ≡ false
never_other Start = refl
never_other (Header g) = refl
never_other (Sized given.Formula k) = refl
never_other (Sized given.Pieces k) = refl
never_other (Sized given.Direct k) = refl
never_other (Valued k e) = refl
never_other (InPieces k done last) = refl
never_other (InForms k forms) = refl

-- the word that is read is that of the line
pub word_said : (bytes : List ℕ) (line : Line) → first_word (map (plain_token bytes) (cond line.bad [] line.tokens.items)) ≡ first_word (says (plain_line bytes line))
word_said bytes line = ap first_word (said_is bytes line)

-- where it is allowed, what follows it is what follows in the line
pub rest_said : (bytes : List ℕ) (line : Line) (s : Place) (w : Word) → w ≡ first_word (says (plain_line bytes line)) → allows s w ≡ true
    → follow s w (map (plain_token bytes) (rest_of line.tokens.items)) ≡ next s (plain_line bytes line)
rest_said bytes line s w word_is going = go line.bad refl
  where
    go : (b : Bool) → line.bad ≡ b → follow s w (map (plain_token bytes) (rest_of line.tokens.items)) ≡ next s (plain_line bytes line)
    go true bad =
        let other : w ≡ word.Other = word_is ∙ ap (λ b. first_word (cond b [] (map (plain_token bytes) line.tokens.items))) bad in
        let never : allows s w ≡ false = ap (allows s) other ∙ never_other s in
        cc
    go false good =
        let said : says (plain_line bytes line) ≡ map (plain_token bytes) line.tokens.items = ap (λ b. cond b [] (map (plain_token bytes) line.tokens.items)) good in
        ap (λ v. follow s v (map (plain_token bytes) (rest_of line.tokens.items))) word_is
        ∙ ap (follow s (first_word (says (plain_line bytes line)))) (sym (rest_map (plain_token bytes) line.tokens.items) ∙ ap rest_of (sym said))

-- the part goes on with the line where its word is allowed
pub line_goes : (bytes : List ℕ) (line : Line) (s : Place) (w : Word) (b : Bool) → w ≡ first_word (says (plain_line bytes line)) → allows s w ≡ b → goes_on s (plain_line bytes line) ≡ b
line_goes bytes line s w b word_is is = ap (allows s) (sym word_is) ∙ is

-- ---- a text is a part with nothing after it
never_next : (s : Place) (line : PlainLine) → goes_on s line ≡ false → next s line ≡ None
never_next s line off = not_followed s (first_word (says line)) (rest_of (says line)) off

-- the answer to lines that are a text, by its function part
text_answer : (bytes : List ℕ) (lines : List PlainLine) → lines_answer bytes lines ≡ whole_answer line_number (part_of_lines bytes lines)
text_answer bytes lines = text_is_part function_table goes_on line_number (end_of bytes) never_next Start lines

pub text_read : (bytes : List ℕ) (lines left : List PlainLine) (f : PlainFunction) → part_of_lines bytes lines ≡ Ends f left → left ≡ [] → lines_answer bytes lines ≡ Read f
text_read bytes lines left f is none = text_answer bytes lines ∙ ap (whole_answer line_number) (is ∙ ap (Ends f) none)

pub text_goes_on : (bytes : List ℕ) (lines left : List PlainLine) (f : PlainFunction) (line : PlainLine) (rest : List PlainLine) → part_of_lines bytes lines ≡ Ends f left → left ≡ line ∷ rest
    → lines_answer bytes lines ≡ Malformed line.number
text_goes_on bytes lines left f line rest is more = text_answer bytes lines ∙ ap (whole_answer line_number) (is ∙ ap (Ends f) more)

pub text_refused : (bytes : List ℕ) (lines : List PlainLine) (e : TextError) → RefusesPart e (part_of_lines bytes lines) → Refuses e (lines_answer bytes lines)
text_refused bytes lines e is = subst (Refuses e) (sym (text_answer bytes lines)) (whole_refused line_number e (part_of_lines bytes lines) is)
