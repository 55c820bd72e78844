-- The answer to a text of two functions by the answers to its parts, that each place of it can end, and that both functions are within their limits.
use Rattle.std.proofs.Common.{◌≡◌, ℕ, true, false, List, [], ◌∷◌, Option, Some, None, refl, sym, ◌∙◌, ap, subst, ⊎_elim}
use Rattle.std.proofs.lemmas.Bool.{cases_Bool}
use Rattle.std.specs.Option.{option_and_then}
use Rattle.crn_token.specs.Plain.{PlainLine, plain_lines, line_number, end_of}
use Rattle.crn_token.specs.Words.{says, rest_of}
use Rattle.crn_grammar.specs.declared.error.TextError.{TextError}
use Rattle.crn_grammar.specs.Table.{IsText, PassesNone, after, CanEnd}
use Rattle.crn_grammar.specs.Part.{Ends, Leaves}
use Rattle.crn_grammar.specs.Reading.{Refuses, RefusesPart}
use Rattle.crn_grammar.specs.Followed.{answer_map}
use Rattle.crn_grammar.proofs.FollowedLaws.{followed_on, followed_is, followed_refused, followed_can_end}
use Rattle.crn_grammar.proofs.FollowedKept.{followed_keeps}
use Rattle.crn_formula.specs.Functions.{IsFitting}
use Rattle.crn_function_text.specs.declared.words.Word.{Word}
use Rattle.crn_function_text.specs.declared.words.Word.TheVariants as word
use Rattle.crn_function_text.specs.Words.{first_word}
use Rattle.crn_function_text.specs.Grammar.{PlainFunction, Place, Start, Header, Sized, Valued, InPieces, InForms, function_table, goes_on, part_of_lines, lines_answer, next, allows, whole}
use Rattle.crn_function_text.specs.Reading.{IsKept}
use Rattle.crn_function_text.specs.Two.{TwoFunctions, two, two_table, two_answer}
use Rattle.crn_function_text.proofs.GrammarLaws.{not_followed, ends, function_can_end}
use Rattle.crn_function_text.proofs.GrammarLaws as grammar
use Rattle.crn_function_text.proofs.Kept.{kept_next, whole_fits}

-- ---- the answer

-- the answer to two functions, by that to the first part
two_is : (bytes : List ℕ) (lines : List PlainLine) → lines ≡ plain_lines bytes → two_answer bytes ≡ followed_on function_table goes_on (λ first. function_table) two line_number (end_of bytes) (part_of_lines bytes lines)
two_is bytes lines is =
    followed_is function_table goes_on (λ first. function_table) two line_number (end_of bytes) Start (plain_lines bytes)
    ∙ ap (λ ls. followed_on function_table goes_on (λ first. function_table) two line_number (end_of bytes) (part_of_lines bytes ls)) (sym is)

pub two_read : (bytes : List ℕ) (lines left : List PlainLine) (f : PlainFunction) → lines ≡ plain_lines bytes → part_of_lines bytes lines ≡ Ends f left → two_answer bytes ≡ answer_map (two f) (lines_answer bytes left)
two_read bytes lines left f whole is = two_is bytes lines whole ∙ ap (followed_on function_table goes_on (λ first. function_table) two line_number (end_of bytes)) is

pub two_refused : (bytes : List ℕ) (lines : List PlainLine) (e : TextError) → lines ≡ plain_lines bytes → RefusesPart e (part_of_lines bytes lines) → Refuses e (two_answer bytes)
two_refused bytes lines e whole is =
    subst (Refuses e) (sym (two_is bytes lines whole)) (followed_refused function_table goes_on (λ first. function_table) two line_number (end_of bytes) e (part_of_lines bytes lines) is)

-- ---- each place can end

-- lines of the first function are lines of the text
pub goes_where_allowed : (s : Place) (line : PlainLine) (t : Place) → next s line ≡ Some t → goes_on s line ≡ true
goes_where_allowed s line t is =
    ⊎_elim (λ going. going) (λ stop. let wrong : ◌≡◌ {A = Option Place} None (Some t) = sym (not_followed s (first_word (says line)) (rest_of (says line)) stop) ∙ is in cc) (cases_Bool (goes_on s line))

-- a line that begins a function is no line of one that is whole
only_function : (w : Word) (s : Place) (f : PlainFunction) → whole s ≡ Some f → allows Start w ≡ true → allows s w ≡ false
only_function word.Function (Valued k e) f is allowed = refl
only_function word.Function (InPieces k done last) f is allowed = refl
only_function word.Function (InForms k forms) f is allowed = refl
only_function word.Function Start f is allowed = let wrong : ◌≡◌ {A = Option PlainFunction} None (Some f) = is in cc
only_function word.Function (Header g) f is allowed = let wrong : ◌≡◌ {A = Option PlainFunction} None (Some f) = is in cc
only_function word.Function (Sized g k) f is allowed = let wrong : ◌≡◌ {A = Option PlainFunction} None (Some f) = is in cc
only_function word.Variables s f is allowed = let wrong : false ≡ true = allowed in cc
only_function word.Value s f is allowed = let wrong : false ≡ true = allowed in cc
only_function word.Piece s f is allowed = let wrong : false ≡ true = allowed in cc
only_function word.When s f is allowed = let wrong : false ≡ true = allowed in cc
only_function word.Form s f is allowed = let wrong : false ≡ true = allowed in cc
only_function word.Other s f is allowed = let wrong : false ≡ true = allowed in cc

-- after a whole function, another one may begin
abbrev Begins : Place → Type 0
Begins s =
    (more : List PlainLine) × (t : Place) × (f : PlainFunction) × (after function_table Start more ≡ Some t) × (whole t ≡ Some f) × Leaves goes_on s more

begins : (s : Place) (f : PlainFunction) → whole s ≡ Some f → Begins s
begins s f is = go (ends Start tt)
  where
    go : grammar.Ends Start → Begins s
    go ([], t, g, there, end) =
        let same : Start ≡ t = cc there in
        let wrong : ◌≡◌ {A = Option PlainFunction} None (Some g) = ap whole same ∙ end in absurd (cc wrong)
    go (line ∷ more, t, g, there, end) = (line ∷ more, t, g, there, end, leaves (next Start line) refl there)
      where
        leaves : (o : Option Place) → next Start line ≡ o → option_and_then (λ u. after function_table u more) o ≡ Some t → goes_on s line ≡ false
        leaves None e led = let wrong : ◌≡◌ {A = Option Place} None (Some t) = led in cc
        leaves (Some u) e led = only_function (first_word (says line)) s f is (goes_where_allowed Start line u e)

pub two_can_end : CanEnd two_table
two_can_end = followed_can_end function_table goes_on (λ first. function_table) two function_can_end goes_where_allowed (λ first. function_can_end) begins

-- ---- the limits

-- both functions of a text that passes no limit are within their limits
pub two_fit : (lines : List PlainLine) (both : TwoFunctions) → IsText two_table lines both → PassesNone two_table lines
    → IsFitting both.first.variables both.first.kind × IsFitting both.second.variables both.second.kind
two_fit lines both text low =
    let (f, p, g, first, kept, end, is) =
    followed_keeps function_table goes_on (λ first. function_table) two IsKept (λ f. IsFitting f.variables f.kind) (λ f p. IsKept p)
    tt kept_next (λ f. kept_next) (λ s f kept is. (whole_fits s f kept is, tt)) lines both text low in
    subst (λ b. IsFitting b.first.variables b.first.kind × IsFitting b.second.variables b.second.kind) is (first, whole_fits p g kept end)
