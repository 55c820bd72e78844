-- The printed text of a function, as lines of tokens with a blank between two or none.
use Rattle.std.specs.Prelude.{ℕ, pos, List, [], ◌∷◌, ◌++◌, map, codes, All}
use Rattle.std.specs.List.{flat_map}
use Rattle.crn_token.specs.declared.Sign.TheVariants.{AtLeast}
use Rattle.crn_token.specs.Plain.{PlainWord, PlainNumber, PlainSign}
use Rattle.crn_token.specs.Printed.{Item, Shown, Blank, printed}
use Rattle.crn_fraction.specs.Rational.{ℚ}
use Rattle.crn_formula.specs.Formulas.{Formula}
use Rattle.crn_formula.specs.Pieces.{Piece}
use Rattle.crn_formula.specs.Functions.{Kind, ByFormula, ByPieces, ByLeast}
use Rattle.crn_form_text.specs.Printing.{form_items, formula_items, AreFracsOf, FitsText}
use Rattle.crn_function_text.specs.Grammar.{PlainFunction}

-- a word, a blank and what follows
abbrev pub word_line : List ℕ → List Item → List Item
word_line word items = Shown (PlainWord word) ∷ Blank ∷ items

-- how a function is given
abbrev pub kind_word : Kind → List ℕ
kind_word (ByFormula e) = codes "formula"
kind_word (ByPieces pieces) = codes "pieces"
kind_word (ByLeast forms) = codes "direct"

abbrev pub header_lines : PlainFunction → List (List Item)
header_lines f = word_line (codes "function") (Shown (PlainWord (kind_word f.kind)) ∷ []) ∷ word_line (codes "variables") (Shown (PlainNumber (pos f.variables)) ∷ []) ∷ []

abbrev pub value_line : ℕ → Formula → List Item
value_line k e = word_line (codes "value") (formula_items k e)

abbrev pub piece_line : ℕ → List ℚ → List Item
piece_line k form = word_line (codes "piece") (form_items k form)

abbrev pub when_line : ℕ → List ℚ → List Item
when_line k condition = word_line (codes "when") (form_items k condition ++ (Blank ∷ Shown (PlainSign AtLeast) ∷ Blank ∷ Shown (PlainNumber (pos 0)) ∷ []))

abbrev pub form_line : ℕ → List ℚ → List Item
form_line k form = word_line (codes "form") (form_items k form)

-- a piece and its conditions
abbrev pub piece_lines : ℕ → Piece → List (List Item)
piece_lines k piece = piece_line k piece.form ∷ map (when_line k) piece.conditions

abbrev pub kind_lines : ℕ → Kind → List (List Item)
kind_lines k (ByFormula e) = value_line k e ∷ []
kind_lines k (ByPieces pieces) = flat_map (piece_lines k) pieces
kind_lines k (ByLeast forms) = map (form_line k) forms

-- the lines of a function
abbrev pub function_lines : PlainFunction → List (List Item)
function_lines f = header_lines f ++ kind_lines f.variables f.kind

-- the text of a function
abbrev pub function_text : PlainFunction → List ℕ
function_text f = printed (function_lines f)

-- each number of a piece is a fraction that fits
abbrev pub ArePieceFracs : ℕ → Piece → Type 0
ArePieceFracs k piece = AreFracsOf k piece.form × All (AreFracsOf k) piece.conditions

-- each number of a function is one
abbrev pub AreKindFracs : ℕ → Kind → Type 0
AreKindFracs k (ByFormula e) = FitsText k e
AreKindFracs k (ByPieces pieces) = All (ArePieceFracs k) pieces
AreKindFracs k (ByLeast forms) = All (AreFracsOf k) forms
