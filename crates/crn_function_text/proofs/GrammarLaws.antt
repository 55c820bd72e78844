-- The table of function text: what is not allowed, that each place can end, and what holds within the limits.
use Rattle.std.proofs.Common.{◌≡◌, ℕ, suc, ◌≤◌, true, false, List, [], ◌∷◌, ◌++◌, Option, Some, None, refl, ◌∙◌, ap, subst, arith}
use Rattle.std.specs.Prelude.{pos, codes}
use Rattle.std.specs.Option.{option_map, option_and_then}
use Rattle.crn_token.specs.Plain.{Plain, PlainLine, PlainWord, PlainNumber}
use Rattle.crn_grammar.specs.Table.{after, CanEnd}
use Rattle.crn_grammar.proofs.TableLaws.{can_end}
use Rattle.crn_formula.specs.Functions.{ByFormula}
use Rattle.crn_form_text.specs.Built.{fitted}
use Rattle.crn_function_text.specs.declared.words.Word.{Word}
use Rattle.crn_function_text.specs.declared.words.Word.TheVariants as word
use Rattle.crn_function_text.specs.declared.words.Given.{Given}
use Rattle.crn_function_text.specs.declared.words.Given.TheVariants as given
use Rattle.crn_token.specs.Words.{rest_of, says}
use Rattle.crn_function_text.specs.Words.{first_word, given_of}
use Rattle.crn_function_text.specs.Spelled.{form_of, plain_form_of, formula_of}
use Rattle.crn_function_text.specs.Grammar.{PlainFunction, Place, Start, Header, Sized, Valued, InPieces, InForms, header, size, condition_of, new_piece, with_condition, follow, allows, function_table}
use Rattle.crn_function_text.proofs.Spelled.{some_form, some_plain_form, some_formula}

-- ---- what is not allowed
-- where no word of the table begins a line, the line is not allowed
pub not_followed : (s : Place) (w : Word) (rest : List Plain) → allows s w ≡ false → follow s w rest ≡ None
not_followed Start word.Function rest never = let wrong : true ≡ false = never in cc
not_followed (Header g) word.Variables rest never = let wrong : true ≡ false = never in cc
not_followed (Sized given.Formula k) word.Value rest never = let wrong : true ≡ false = never in cc
not_followed (Sized given.Pieces k) word.Piece rest never = let wrong : true ≡ false = never in cc
not_followed (Sized given.Direct k) word.Form rest never = let wrong : true ≡ false = never in cc
not_followed (InPieces k done last) word.Piece rest never = let wrong : true ≡ false = never in cc
not_followed (InPieces k done last) word.When rest never = let wrong : true ≡ false = never in cc
not_followed (InForms k forms) word.Form rest never = let wrong : true ≡ false = never in cc
not_followed _ _ rest never = refl

-- ---- each place can end
abbrev pub Fine : Place → Type 0
Fine (Sized g k) = 1 ≤ k
Fine _ = Unit {0}

abbrev FineNext : Option Place → Type 0
FineNext None = Unit {0}
FineNext (Some t) = Fine t

fine_map : {X : Type 0} (f : X → Place) → ((x : X) → Fine (f x)) → (o : Option X) → FineNext (option_map f o)
fine_map f fine None = tt
fine_map f fine (Some x) = fine x

fine_header : (rest : List Plain) → FineNext (header rest)
fine_header (PlainWord letters ∷ []) = fine_map (λ g. Header g) (λ g. tt) (given_of letters)
fine_header _ = tt

fine_size : (g : Given) (rest : List Plain) → FineNext (size g rest)
fine_size g (PlainNumber (pos (suc k)) ∷ []) = omega arith
fine_size g _ = tt

fine_follow : (s : Place) (w : Word) (rest : List Plain) → FineNext (follow s w rest)
fine_follow Start word.Function rest = fine_header rest
fine_follow (Header g) word.Variables rest = fine_size g rest
fine_follow (Sized given.Formula k) word.Value rest = fine_map (λ e. Valued k (fitted k e)) (λ e. tt) (formula_of k rest)
fine_follow (Sized given.Pieces k) word.Piece rest = fine_map (λ f. InPieces k [] (new_piece f)) (λ f. tt) (form_of k rest)
fine_follow (Sized given.Direct k) word.Form rest = fine_map (λ f. InForms k (f ∷ [])) (λ f. tt) (plain_form_of k rest)
fine_follow (InPieces k done last) word.Piece rest = fine_map (λ f. InPieces k (done ++ last ∷ []) (new_piece f)) (λ f. tt) (form_of k rest)
fine_follow (InPieces k done last) word.When rest = fine_map (λ c. InPieces k done (with_condition last c)) (λ c. tt) (condition_of k rest)
fine_follow (InForms k forms) word.Form rest = fine_map (λ f. InForms k (forms ++ f ∷ [])) (λ f. tt) (plain_form_of k rest)
fine_follow _ _ rest = tt

pub fine_next : (s : Place) (line : PlainLine) (t : Place) → Fine s → function_table.next s line ≡ Some t → Fine t
fine_next s line t fine is = subst FineNext is (fine_follow s (first_word (says line)) (rest_of (says line)))

-- some lines lead on to the end of a text
abbrev pub Ends : Place → Type 0
Ends s = (more : List PlainLine) × (t : Place) × (f : PlainFunction) × (after function_table s more ≡ Some t) × (function_table.whole t ≡ Some f)

said_line : List Plain → PlainLine
said_line tokens = record { number = 0; bad = false; tokens = tokens }

-- one line more
ends_after : (s t : Place) (line : PlainLine) → function_table.next s line ≡ Some t → Ends t → Ends s
ends_after s t line is (more, u, f, there, end) = (line ∷ more, u, f, ap (option_and_then (λ v. after function_table v more)) is ∙ there, end)

ends_sized : (g : Given) (k : ℕ) → 1 ≤ k → Ends (Sized g k)
unfolding said_line
ends_sized given.Formula k some =
    let (ts, e, is) = some_formula k some in
    ends_after (Sized given.Formula k) (Valued k (fitted k e)) (said_line (PlainWord (codes "value") ∷ ts)) (ap (option_map (λ d. Valued k (fitted k d))) is) ([], Valued k (fitted k e), record { variables = k; kind = ByFormula (fitted k e) }, refl, refl)
ends_sized given.Pieces k some =
    let (ts, f, is) = some_form k some in
    ends_after (Sized given.Pieces k) (InPieces k [] (new_piece f)) (said_line (PlainWord (codes "piece") ∷ ts)) (ap (option_map (λ d. InPieces k [] (new_piece d))) is) ([], InPieces k [] (new_piece f), _, refl, refl)
ends_sized given.Direct k some =
    let (ts, f, is) = some_plain_form k some in
    ends_after (Sized given.Direct k) (InForms k (f ∷ [])) (said_line (PlainWord (codes "form") ∷ ts)) (ap (option_map (λ d. InForms k (d ∷ []))) is) ([], InForms k (f ∷ []), _, refl, refl)

ends_header : (g : Given) → Ends (Header g)
unfolding said_line
ends_header g = ends_after (Header g) (Sized g 1) (said_line (PlainWord (codes "variables") ∷ PlainNumber (pos 1) ∷ [])) refl (ends_sized g 1 (omega arith))

pub ends : (s : Place) → Fine s → Ends s
unfolding said_line
ends Start fine = ends_after Start (Header given.Formula) (said_line (PlainWord (codes "function") ∷ PlainWord (codes "formula") ∷ [])) refl (ends_header given.Formula)
ends (Header g) fine = ends_header g
ends (Sized g k) fine = ends_sized g k fine
ends (Valued k e) fine = ([], Valued k e, _, refl, refl)
ends (InPieces k done last) fine = ([], InPieces k done last, _, refl, refl)
ends (InForms k forms) fine = ([], InForms k forms, _, refl, refl)

pub function_can_end : CanEnd function_table
function_can_end = can_end function_table Fine tt fine_next ends
