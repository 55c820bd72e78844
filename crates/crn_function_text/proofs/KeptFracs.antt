-- The numbers of a function that a text gives are fractions that fit.
use Rattle.std.proofs.Common.{◌≡◌, ℕ, zero, suc, ◌+◌, ◌-◌, ◌≤◌, Bool, true, false, cond, List, [], ◌∷◌, ◌++◌, length, take, drop, map, Option, Some, None, refl, subst, arith}
use Rattle.std.proofs.lemmas.List.Elements.{All-nil, All-cons, All-head, All-tail, All-push, All-map, All-weaker}
use Rattle.std.specs.Prelude.{All, pos}
use Rattle.std.specs.List.{list_any}
use Rattle.std.specs.Option.{option_map}
use Rattle.crn_fraction.specs.Rational.{ℚ}
use Rattle.crn_token.specs.Plain.{Plain, PlainLine, PlainWord, PlainNumber, plain_lines}
use Rattle.crn_token.specs.Small.{AreSmall, AreSmallLines}
use Rattle.crn_token.proofs.SmallNumbers.{small_take, lines_small}
use Rattle.crn_grammar.specs.Table.{IsText, PassesNone}
use Rattle.crn_grammar.proofs.TableLaws.{EachLine, kept_where}
use Rattle.crn_formula.specs.Pieces.{Piece}
use Rattle.crn_formula.specs.Formulas.{Formula, Lin, Add, Sub, Scale, Min, Max, IsOver}
use Rattle.crn_formula.specs.Functions.{Kind, ByFormula, ByPieces, ByLeast, IsPieceOver, IsKindOver, columns, is_affine, piece_has_constant}
use Rattle.crn_formula.specs.Numbers.{HasFracs, HasPieceFracs, HasKindFracs}
use Rattle.crn_linear.specs.Fracs.{AreFracs, AreFormFracs}
use Rattle.crn_form_text.specs.Built.{fitted}
use Rattle.crn_form_text.specs.Printing.{AreFracsOf, FitsText}
use Rattle.crn_form_text.proofs.SmallSpelled.{form_spelled_fits, plain_spelled_fits, formula_spelled_fits, fitted_fits, narrow_fits_form}
use Rattle.crn_function_text.specs.declared.words.Word.{Word}
use Rattle.crn_function_text.specs.declared.words.Word.TheVariants as word
use Rattle.crn_function_text.specs.declared.words.Given.{Given}
use Rattle.crn_function_text.specs.declared.words.Given.TheVariants as given
use Rattle.crn_token.specs.Words.{rest_of, says}
use Rattle.crn_function_text.specs.Words.{first_word, given_of}
use Rattle.crn_function_text.specs.Columns.{kept_columns, narrow_piece}
use Rattle.crn_function_text.specs.Spelled.{form_of, plain_form_of, formula_of}
use Rattle.crn_function_text.specs.Grammar.{PlainFunction, function_table, whole, Place, Start, Header, Sized, Valued, InPieces, InForms, header, size, is_at_least_zero, condition_of, new_piece, with_condition, follow, limit}
use Rattle.crn_function_text.specs.Printing.{ArePieceFracs, AreKindFracs}
use Rattle.crn_function_text.specs.Reading.{IsKept}
use Rattle.crn_form_text.proofs.ParsedLaws.{form_from_is, plain_form_from_is, formula_from_is}
use Rattle.crn_function_text.proofs.Kept.{kept_next, some_function, all_before, all_last, text_fits}

-- the numbers of a place are fractions that fit
abbrev AreFitting : Place → Type 0
AreFitting Start = Unit {0}
AreFitting (Header g) = Unit {0}
AreFitting (Sized g k) = Unit {0}
AreFitting (Valued k e) = FitsText k e
AreFitting (InPieces k done last) = All (ArePieceFracs k) (done ++ last ∷ [])
AreFitting (InForms k forms) = All (AreFracsOf k) forms

abbrev FittingNext : Option Place → Type 0
FittingNext None = Unit {0}
FittingNext (Some t) = AreFitting t

fitting_map : {X : Type 0} (f : X → Place) (o : Option X) → ((x : X) → o ≡ Some x → AreFitting (f x)) → FittingNext (option_map f o)
fitting_map f None fits = tt
fitting_map f (Some x) fits = fits x refl

new_fits : (k : ℕ) (f : List ℚ) → AreFracsOf k f → ArePieceFracs k (new_piece f)
new_fits k f fits = (fits, All-nil (AreFracsOf k))

-- ---- a line more

fitting_header : (rest : List Plain) → FittingNext (header rest)
fitting_header (PlainWord letters ∷ []) = fitting_map (λ g. Header g) (given_of letters) (λ g is. tt)
fitting_header _ = tt

fitting_size : (g : Given) (rest : List Plain) → FittingNext (size g rest)
fitting_size g (PlainNumber (pos (suc k)) ∷ []) = tt
fitting_size g _ = tt

form_fits : (k : ℕ) (f : List ℚ) (rest : List Plain) → AreSmall rest → form_of k rest ≡ Some f → AreFracsOf k f
form_fits k f rest small is = form_spelled_fits k f rest (form_from_is k f rest is) small

condition_fits : (k : ℕ) (c : List ℚ) (rest : List Plain) → AreSmall rest → condition_of k rest ≡ Some c → AreFracsOf k c
condition_fits k c rest small is = go (is_at_least_zero (drop (length rest - 2) rest)) is
  where
    go : (b : Bool) → cond b (form_of k (take (length rest - 2) rest)) None ≡ Some c → AreFracsOf k c
    go true here = form_fits k c (take (length rest - 2) rest) (small_take (length rest - 2) rest small) here
    go false here = let wrong : ◌≡◌ {A = Option (List ℚ)} None (Some c) = here in cc

with_fits : (k : ℕ) (p : Piece) (c : List ℚ) → AreFracsOf k c → ArePieceFracs k p → ArePieceFracs k (with_condition p c)
with_fits k p c one fits = (fits.0, All-push (AreFracsOf k) p.conditions c fits.1 one)

fitting_follow : (s : Place) (w : Word) (rest : List Plain) → AreSmall rest → IsKept s → AreFitting s → FittingNext (follow s w rest)
fitting_follow Start word.Function rest small kept fits = fitting_header rest
fitting_follow (Header g) word.Variables rest small kept fits = fitting_size g rest
fitting_follow (Sized given.Formula k) word.Value rest small kept fits =
    fitting_map (λ e. Valued k (fitted k e)) (formula_of k rest) (λ e is. fitted_fits k e (formula_spelled_fits k e rest kept.1 (formula_from_is k e rest is) small))
fitting_follow (Sized given.Pieces k) word.Piece rest small kept fits =
    fitting_map (λ f. InPieces k [] (new_piece f)) (form_of k rest) (λ f is. All-push (ArePieceFracs k) [] (new_piece f) (All-nil (ArePieceFracs k)) (new_fits k f (form_fits k f rest small is)))
fitting_follow (Sized given.Direct k) word.Form rest small kept fits =
    fitting_map (λ f. InForms k (f ∷ [])) (plain_form_of k rest) (λ f is. All-push (AreFracsOf k) [] f (All-nil (AreFracsOf k)) (plain_spelled_fits k f rest (plain_form_from_is k f rest is) small))
fitting_follow (InPieces k done last) word.Piece rest small kept fits =
    fitting_map (λ f. InPieces k (done ++ last ∷ []) (new_piece f)) (form_of k rest) (λ f is. All-push (ArePieceFracs k) (done ++ last ∷ []) (new_piece f) fits (new_fits k f (form_fits k f rest small is)))
fitting_follow (InPieces k done last) word.When rest small kept fits =
    fitting_map (λ c. InPieces k done (with_condition last c)) (condition_of k rest) (λ c is.
    All-push (ArePieceFracs k) done (with_condition last c) (all_before (ArePieceFracs k) done last fits) (with_fits k last c (condition_fits k c rest small is) (all_last (ArePieceFracs k) done last fits)))
fitting_follow (InForms k forms) word.Form rest small kept fits =
    fitting_map (λ f. InForms k (forms ++ f ∷ [])) (plain_form_of k rest) (λ f is. All-push (AreFracsOf k) forms f fits (plain_spelled_fits k f rest (plain_form_from_is k f rest is) small))
fitting_follow _ _ rest small kept fits = tt

-- what a line says is small
says_small : (line : PlainLine) → AreSmall line.tokens → AreSmall (says line)
says_small line small = go line.bad
  where
    go : (b : Bool) → AreSmall (cond b [] line.tokens)
    go true = tt
    go false = small

rest_small : (ts : List Plain) → AreSmall ts → AreSmall (rest_of ts)
rest_small [] small = tt
rest_small (t ∷ ts) small = small.1

abbrev IsBoth : Place → Type 0
IsBoth s = IsKept s × AreFitting s

both_next : (s : Place) (line : PlainLine) (t : Place) → AreSmall line.tokens → IsBoth s → function_table.next s line ≡ Some t → limit t ≡ None → IsBoth t
both_next s line t small both is low = (
  kept_next s line t both.0 is low,
  subst FittingNext is (fitting_follow s (first_word (says line)) (rest_of (says line)) (rest_small (says line) (says_small line small)) both.0 both.1),
)

-- ---- the function

narrow_fits : (k : ℕ) (p : Piece) → ArePieceFracs k p → ArePieceFracs k (narrow_piece k p)
narrow_fits k p fits = (narrow_fits_form k p.form fits.0.0, All-map (AreFracsOf k) (take k) p.conditions (All-weaker (AreFracsOf k) (λ c. AreFracsOf k (take k c)) (λ c fit. narrow_fits_form k c fit.0) p.conditions fits.1))

columns_fit : (k : ℕ) (ps : List Piece) → All (ArePieceFracs k) ps → All (ArePieceFracs k) (kept_columns k ps)
columns_fit k ps fits = go (list_any (piece_has_constant k) ps)
  where
    go : (b : Bool) → All (ArePieceFracs k) (cond b ps (map (narrow_piece k) ps))
    go true = fits
    go false = All-map (ArePieceFracs k) (narrow_piece k) ps (All-weaker (ArePieceFracs k) (λ p. ArePieceFracs k (narrow_piece k p)) (narrow_fits k) ps fits)

whole_fracs : (s : Place) (f : PlainFunction) → AreFitting s → whole s ≡ Some f → AreKindFracs f.variables f.kind
whole_fracs (Valued k e) f fits is = subst (λ g. AreKindFracs g.variables g.kind) (some_function _ f is) fits
whole_fracs (InPieces k done last) f fits is = subst (λ g. AreKindFracs g.variables g.kind) (some_function _ f is) (columns_fit k (done ++ last ∷ []) fits)
whole_fracs (InForms k forms) f fits is = subst (λ g. AreKindFracs g.variables g.kind) (some_function _ f is) fits
whole_fracs Start f fits is = let wrong : ◌≡◌ {A = Option PlainFunction} None (Some f) = is in cc
whole_fracs (Header g) f fits is = let wrong : ◌≡◌ {A = Option PlainFunction} None (Some f) = is in cc
whole_fracs (Sized g k) f fits is = let wrong : ◌≡◌ {A = Option PlainFunction} None (Some f) = is in cc

each_small : (lines : List PlainLine) → AreSmallLines lines → EachLine function_table (λ line. AreSmall line.tokens) lines
each_small [] small = tt
each_small (line ∷ lines) small = (small.0, each_small lines small.1)

pub text_kind_fracs : (bytes : List ℕ) (f : PlainFunction) → IsText function_table (plain_lines bytes) f → PassesNone function_table (plain_lines bytes) → AreKindFracs f.variables f.kind
text_kind_fracs bytes f text low =
    let (s, both, is) = kept_where function_table (λ line. AreSmall line.tokens) IsBoth (tt, tt) both_next (plain_lines bytes) f (each_small (plain_lines bytes) (lines_small bytes)) text low in
    whole_fracs s f both.1 is

-- ---- all its numbers

-- the entries in the columns of the variables and of the constant are all that a form has
all_fracs : (k : ℕ) (form : List ℚ) → length form ≤ k + 1 → AreFracsOf k form → AreFracs form
all_fracs k [] short fits = tt
all_fracs zero (q ∷ []) short fits = (fits.1, tt)
all_fracs zero (q ∷ p ∷ form) short fits = absurd (omega (arith, short))
all_fracs (suc k) (q ∷ form) short fits = (fits.0.0, all_fracs k form (omega (arith, short)) (fits.0.1, fits.1))

formula_fracs : (k n : ℕ) (e : Formula) → n ≤ k + 1 → IsOver n e → FitsText k e → HasFracs e
formula_fracs k n (Lin form) few over fits = all_fracs k form (omega (arith, few, over)) (fits.1, fits.2)
formula_fracs k n (Add a b) few over fits = (formula_fracs k n a few over.0 fits.0, formula_fracs k n b few over.1 fits.1)
formula_fracs k n (Sub a b) few over fits = (formula_fracs k n a few over.0 fits.0, formula_fracs k n b few over.1 fits.1)
formula_fracs k n (Scale q a) few over fits = (fits.0, formula_fracs k n a few over fits.1)
formula_fracs k n (Min a b) few over fits = (formula_fracs k n a few over.0 fits.0, formula_fracs k n b few over.1 fits.1)
formula_fracs k n (Max a b) few over fits = (formula_fracs k n a few over.0 fits.0, formula_fracs k n b few over.1 fits.1)

forms_fracs : (k n : ℕ) (forms : List (List ℚ)) → n ≤ k + 1 → All (λ f. length f ≡ n) forms → All (AreFracsOf k) forms → AreFormFracs forms
forms_fracs k n [] few long fits = tt
forms_fracs k n (form ∷ forms) few long fits =
    let same : length form ≡ n = All-head (λ f. length f ≡ n) form forms long in (
      all_fracs k form (omega (arith, few, same)) (All-head (AreFracsOf k) form forms fits),
      forms_fracs k n forms few (All-tail (λ f. length f ≡ n) form forms long) (All-tail (AreFracsOf k) form forms fits),
    )

pieces_fracs : (k n : ℕ) (ps : List Piece) → n ≤ k + 1 → All (IsPieceOver n) ps → All (ArePieceFracs k) ps → All HasPieceFracs ps
pieces_fracs k n [] few over fits = All-nil HasPieceFracs
pieces_fracs k n (p ∷ ps) few over fits =
    let here = All-head (IsPieceOver n) p ps over in
    let fit = All-head (ArePieceFracs k) p ps fits in
    All-cons HasPieceFracs p ps (all_fracs k p.form (omega (arith, few, here.form)) fit.0, forms_fracs k n p.conditions few here.conditions fit.1)
    (pieces_fracs k n ps few (All-tail (IsPieceOver n) p ps over) (All-tail (ArePieceFracs k) p ps fits))

few_columns : (k : ℕ) (kind : Kind) → columns k kind ≤ k + 1
few_columns k kind = go (is_affine k kind)
  where
    go : (b : Bool) → cond b (k + 1) k ≤ k + 1
    go true = omega arith
    go false = omega arith

kind_fracs : (k n : ℕ) (kind : Kind) → n ≤ k + 1 → IsKindOver n kind → AreKindFracs k kind → HasKindFracs kind
kind_fracs k n (ByFormula e) few over fits = formula_fracs k n e few over fits
kind_fracs k n (ByPieces ps) few over fits = pieces_fracs k n ps few over fits
kind_fracs k n (ByLeast forms) few over fits = forms_fracs k n forms few over fits

pub text_fracs : (bytes : List ℕ) (f : PlainFunction) → IsText function_table (plain_lines bytes) f → PassesNone function_table (plain_lines bytes) → HasKindFracs f.kind
text_fracs bytes f text low =
    kind_fracs f.variables (columns f.variables f.kind) f.kind (few_columns f.variables f.kind) (text_fits (plain_lines bytes) f text low).forms (text_kind_fracs bytes f text low)
