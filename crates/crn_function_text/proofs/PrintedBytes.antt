-- The bytes of a printed function read as its lines.
use Rattle.std.proofs.Common.{◌≡◌, ℕ, suc, ◌≤◌, pos, List, [], ◌∷◌, ◌++◌, map, refl, subst, arith, append-nil}
use Rattle.std.proofs.lemmas.Int.{ints}
use Rattle.std.proofs.lemmas.List.{length-take}
use Rattle.std.specs.Prelude.{All, codes}
use Rattle.std.specs.List.{flat_map}
use Rattle.crn_token.specs.declared.Sign.TheVariants.{AtLeast}
use Rattle.crn_token.specs.Plain.{PlainWord, PlainNumber, PlainSign, plain_lines}
use Rattle.crn_token.specs.Printed.{Item, Shown, Blank, IsToken, IsPrinted, AreLines, lines_read, printed}
use Rattle.crn_token.proofs.PrintedLaws.{text_reads, AreLines-append}
use Rattle.crn_fraction.specs.Rational.{ℚ}
use Rattle.crn_formula.specs.Pieces.{Piece}
use Rattle.crn_formula.specs.Functions.{Kind, ByFormula, ByPieces, ByLeast}
use Rattle.crn_form_text.specs.Printing.{form_items, formula_items, AreFracsOf}
use Rattle.crn_form_text.proofs.ItemLaws.{form_is_printed, formula_is_printed}
use Rattle.crn_function_text.specs.Grammar.{PlainFunction}
use Rattle.crn_function_text.specs.Printing.{function_lines, function_text, kind_lines, kind_word, word_line, when_line, form_line, piece_lines, ArePieceFracs, AreKindFracs}

-- a word that is one, and then what is printed so
word_is : (word : List ℕ) (items : List Item) (lines : List (List Item)) → IsToken (PlainWord word) → IsPrinted items → AreLines lines → AreLines (word_line word items ∷ lines)
word_is word items lines is printed more = ((is, refl, printed), omega arith, more)

form_is : (k : ℕ) (form : List ℚ) (rest : List Item) → k ≤ 8 → AreFracsOf k form → IsPrinted (Blank ∷ rest) → IsPrinted (form_items k form ++ (Blank ∷ rest))
form_is k form rest few fits more = form_is_printed k form (Blank ∷ rest) (omega (arith, few, length-take k form)) fits.0 fits.1 (λ n. refl) more

form_alone : (k : ℕ) (form : List ℚ) → k ≤ 8 → AreFracsOf k form → IsPrinted (form_items k form)
form_alone k form few fits = subst IsPrinted (append-nil (form_items k form)) (form_is_printed k form [] (omega (arith, few, length-take k form)) fits.0 fits.1 (λ n. refl) tt)

zero_token : IsToken (PlainNumber (pos 0))
zero_token = (omega (arith, ints), omega (arith, ints))

whens_are : (k : ℕ) (cs : List (List ℚ)) → k ≤ 8 → All (AreFracsOf k) cs → AreLines (map (when_line k) cs)
whens_are k [] few fits = tt
whens_are k (c ∷ cs) few fits =
    word_is (codes "when") (form_items k c ++ (Blank ∷ Shown (PlainSign AtLeast) ∷ Blank ∷ Shown (PlainNumber (pos 0)) ∷ [])) (map (when_line k) cs) refl
    (form_is k c (Shown (PlainSign AtLeast) ∷ Blank ∷ Shown (PlainNumber (pos 0)) ∷ []) few (fits 0 c (omega arith)) (tt, refl, (zero_token, refl, tt)))
    (whens_are k cs few (λ i d within. fits (suc i) d (omega (arith, within))))

pieces_are : (k : ℕ) (ps : List Piece) → k ≤ 8 → All (ArePieceFracs k) ps → AreLines (flat_map (piece_lines k) ps)
pieces_are k [] few fits = tt
pieces_are k (p ∷ ps) few fits =
    let here = fits 0 p (omega arith) in
    AreLines-append (piece_lines k p) (flat_map (piece_lines k) ps)
    (word_is (codes "piece") (form_items k p.form) (map (when_line k) p.conditions) refl (form_alone k p.form few here.0) (whens_are k p.conditions few here.1))
    (pieces_are k ps few (λ i d within. fits (suc i) d (omega (arith, within))))

forms_are : (k : ℕ) (fs : List (List ℚ)) → k ≤ 8 → All (AreFracsOf k) fs → AreLines (map (form_line k) fs)
forms_are k [] few fits = tt
forms_are k (f ∷ fs) few fits =
    word_is (codes "form") (form_items k f) (map (form_line k) fs) refl (form_alone k f few (fits 0 f (omega arith))) (forms_are k fs few (λ i d within. fits (suc i) d (omega (arith, within))))

kind_are : (k : ℕ) (kind : Kind) → k ≤ 8 → AreKindFracs k kind → AreLines (kind_lines k kind)
kind_are k (ByFormula e) few fits = word_is (codes "value") (formula_items k e) [] refl (subst IsPrinted (append-nil (formula_items k e)) (formula_is_printed k e fits [] (λ n. refl) tt)) tt
kind_are k (ByPieces pieces) few fits = pieces_are k pieces few fits
kind_are k (ByLeast forms) few fits = forms_are k forms few fits

kind_token : (kind : Kind) → IsToken (PlainWord (kind_word kind))
kind_token (ByFormula e) = refl
kind_token (ByPieces pieces) = refl
kind_token (ByLeast forms) = refl

pub function_are : (f : PlainFunction) → f.variables ≤ 8 → AreKindFracs f.variables f.kind → AreLines (function_lines f)
function_are f few fits =
    word_is (codes "function") (Shown (PlainWord (kind_word f.kind)) ∷ []) (word_line (codes "variables") (Shown (PlainNumber (pos f.variables)) ∷ []) ∷ kind_lines f.variables f.kind) refl (kind_token f.kind, refl, tt)
    (word_is (codes "variables") (Shown (PlainNumber (pos f.variables)) ∷ []) (kind_lines f.variables f.kind) refl ((omega (arith, ints), omega (arith, ints, few)), refl, tt)
    (kind_are f.variables f.kind few fits))

pub bytes_read : (f : PlainFunction) → f.variables ≤ 8 → AreKindFracs f.variables f.kind → plain_lines (function_text f) ≡ lines_read 1 (function_lines f)
bytes_read f few fits = (text_reads (function_lines f) (function_are f few fits)).1
