-- The answer to a text of a function and a proof by the answers to its parts, and that each place of it can end.
use Rattle.std.proofs.Common.{◌≡◌, ℕ, true, List, [], Option, Some, None, refl, sym, ◌∙◌, ap, subst, ⊎_elim}
use Rattle.std.proofs.lemmas.Bool.{cases_Bool}
use Rattle.crn_token.specs.Plain.{PlainLine, plain_lines, line_number, end_of}
use Rattle.crn_token.specs.Words.{says, rest_of}
use Rattle.crn_grammar.specs.declared.error.TextError.{TextError}
use Rattle.crn_grammar.specs.Table.{CanEnd}
use Rattle.crn_grammar.specs.Part.{Ends}
use Rattle.crn_grammar.specs.Reading.{Refuses, RefusesPart}
use Rattle.crn_grammar.specs.Followed.{answer_map}
use Rattle.crn_grammar.proofs.FollowedLaws.{followed_on, followed_is, followed_refused, followed_can_end}
use Rattle.crn_function_text.specs.Words.{first_word}
use Rattle.crn_function_text.specs.Grammar.{PlainFunction, Place, Start, function_table, goes_on, part_of_lines}
use Rattle.crn_function_text.specs.Grammar as functions
use Rattle.crn_function_text.proofs.GrammarLaws.{not_followed, function_can_end}
use Rattle.crn_cert_text.specs.Text.{no_lines, proof_table, lines_answer}
use Rattle.crn_cert_text.specs.ProvedText.{proved_table, proved_answer, proved_with}

text_is : (bytes : List ℕ) (lines : List PlainLine) → lines ≡ plain_lines bytes → proved_answer bytes ≡ followed_on function_table goes_on (λ f. proof_table) proved_with line_number (end_of bytes) (part_of_lines bytes lines)
text_is bytes lines is =
    followed_is function_table goes_on (λ f. proof_table) proved_with line_number (end_of bytes) Start (plain_lines bytes)
    ∙ ap (λ ls. followed_on function_table goes_on (λ f. proof_table) proved_with line_number (end_of bytes) (part_of_lines bytes ls)) (sym is)

pub text_read : (bytes : List ℕ) (lines left : List PlainLine) (f : PlainFunction) → lines ≡ plain_lines bytes → part_of_lines bytes lines ≡ Ends f left → proved_answer bytes ≡ answer_map (proved_with f) (lines_answer bytes left)
text_read bytes lines left f whole is = text_is bytes lines whole ∙ ap (followed_on function_table goes_on (λ f. proof_table) proved_with line_number (end_of bytes)) is

pub text_refused : (bytes : List ℕ) (lines : List PlainLine) (e : TextError) → lines ≡ plain_lines bytes → RefusesPart e (part_of_lines bytes lines) → Refuses e (proved_answer bytes)
text_refused bytes lines e whole is =
    subst (Refuses e) (sym (text_is bytes lines whole)) (followed_refused function_table goes_on (λ f. proof_table) proved_with line_number (end_of bytes) e (part_of_lines bytes lines) is)

-- ---- each place can end
pub goes_where_allowed : (s : Place) (line : PlainLine) (t : Place) → functions.next s line ≡ Some t → goes_on s line ≡ true
goes_where_allowed s line t is =
    ⊎_elim (λ going. going) (λ stop. let wrong : ◌≡◌ {A = Option Place} None (Some t) = sym (not_followed s (first_word (says line)) (rest_of (says line)) stop) ∙ is in cc) (cases_Bool (goes_on s line))

pub proved_can_end : CanEnd proved_table
proved_can_end =
    followed_can_end function_table goes_on (λ f. proof_table) proved_with function_can_end goes_where_allowed (λ f lines p there. ([], p, p, refl, refl)) (λ s f is. ([], no_lines, no_lines, refl, refl, tt))
