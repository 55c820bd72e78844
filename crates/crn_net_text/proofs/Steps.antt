-- A text that is a network part.
use Rattle.std.proofs.Common.{◌≡◌, ℕ, zero, suc, true, false, List, [], ◌∷◌, None, refl, sym, ◌∙◌, ap, subst}
use Rattle.crn_token.specs.Plain.{Plain, PlainLine, line_number, end_of}
use Rattle.crn_token.specs.Words.{says}
use Rattle.crn_grammar.specs.declared.error.TextError.{TextError}
use Rattle.crn_grammar.specs.Table.{Read, Malformed}
use Rattle.crn_grammar.specs.Part.{Ends}
use Rattle.crn_grammar.specs.Reading.{Refuses, RefusesPart}
use Rattle.crn_grammar.proofs.Turns.{whole_answer, text_is_part, whole_refused}
use Rattle.crn_net.specs.Network.{Network}
use Rattle.crn_net_text.specs.Grammar.{Place, Start, Titled, Naming, Placed, Closed, Listing, follow, next, is_open, goes_on, network_table, part_of_lines, lines_answer}

-- a whole network is followed by nothing
not_followed : (s : Place) (tokens : List Plain) → is_open s ≡ false → follow s tokens ≡ None
not_followed Start tokens stop = let wrong : true ≡ false = stop in cc
not_followed (Titled rails two) tokens stop = let wrong : true ≡ false = stop in cc
not_followed (Naming rails two n inputs) tokens stop = let wrong : true ≡ false = stop in cc
not_followed (Placed rails n inputs k) tokens stop = let wrong : true ≡ false = stop in cc
not_followed (Closed net) tokens stop = let wrong : true ≡ false = stop in cc
not_followed (Listing zero net) tokens stop = refl
not_followed (Listing (suc m) net) tokens stop = let wrong : true ≡ false = stop in cc

never_next : (s : Place) (line : PlainLine) → goes_on s line ≡ false → next s line ≡ None
never_next s line off = not_followed s (says line) off

-- the answer to lines that are a text, by its network part
text_answer : (bytes : List ℕ) (lines : List PlainLine) → lines_answer bytes lines ≡ whole_answer line_number (part_of_lines bytes lines)
text_answer bytes lines = text_is_part network_table goes_on line_number (end_of bytes) never_next Start lines

pub text_read : (bytes : List ℕ) (lines left : List PlainLine) (f : Network) → part_of_lines bytes lines ≡ Ends f left → left ≡ [] → lines_answer bytes lines ≡ Read f
text_read bytes lines left f is none = text_answer bytes lines ∙ ap (whole_answer line_number) (is ∙ ap (Ends f) none)

pub text_goes_on : (bytes : List ℕ) (lines left : List PlainLine) (f : Network) (line : PlainLine) (rest : List PlainLine) → part_of_lines bytes lines ≡ Ends f left → left ≡ line ∷ rest
    → lines_answer bytes lines ≡ Malformed line.number
text_goes_on bytes lines left f line rest is more = text_answer bytes lines ∙ ap (whole_answer line_number) (is ∙ ap (Ends f) more)

pub text_refused : (bytes : List ℕ) (lines : List PlainLine) (e : TextError) → RefusesPart e (part_of_lines bytes lines) → Refuses e (lines_answer bytes lines)
text_refused bytes lines e is = subst (Refuses e) (sym (text_answer bytes lines)) (whole_refused line_number e (part_of_lines bytes lines) is)
