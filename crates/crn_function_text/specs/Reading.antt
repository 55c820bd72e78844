-- What the reader's places and functions show.
use Rattle.std.specs.Prelude.{ℕ, ◌+◌, ◌≡◌, ◌≤◌, List, [], ◌∷◌, ◌++◌, length, All}
use Rattle.crn_fraction.specs.Rational.{ℚ}
use Rattle.crn_formula.specs.Pieces.{Piece}
use Rattle.crn_formula.specs.Functions.{ByFormula, IsFitting, IsPieceOver, AreFewPieces, condition_count, AreFewForms}
use Rattle.crn_formula.specs.Views.{Function, plain_of, piece_of, pieces_of, kind_of}
use Rattle.crn_function_text.specs.declared.place.Place.{Place}
use Rattle.crn_function_text.specs.declared.place.Place.TheVariants as place
use Rattle.crn_function_text.specs.Grammar as grammar

-- a place with what was read
abbrev pub shown : Place → grammar.Place
shown place.Start = grammar.Start
shown (place.Header g) = grammar.Header g
shown (place.Sized g k) = grammar.Sized g k
shown (place.Valued k e) = grammar.Valued k (plain_of e)
shown (place.InPieces k done last) = grammar.InPieces k (pieces_of done.items) (piece_of last)
shown (place.InForms k forms) = grammar.InForms k forms.items

-- a function of the code
abbrev pub function_of : Function → grammar.PlainFunction
function_of f = record { variables = f.variables; kind = kind_of f.kind }

-- the pieces within the limits, whose forms have a column for the constant
pub record AreKeptPieces (k : ℕ) (pieces : List Piece) : Type 0 where
  pub over : All (IsPieceOver (k + 1)) pieces
  pub few : AreFewPieces condition_count pieces

-- direct forms within the limits
pub record AreKeptForms (k : ℕ) (forms : List (List ℚ)) : Type 0 where
  pub over : All (λ f. length f ≡ k) forms
  pub few : AreFewForms forms

-- what holds at each place to which lines lead of which none passed a limit
abbrev pub IsKept : grammar.Place → Type 0
IsKept grammar.Start = Unit {0}
IsKept (grammar.Header g) = Unit {0}
IsKept (grammar.Sized g k) = (1 ≤ k) × (k ≤ grammar.most_variables)
IsKept (grammar.Valued k e) = IsFitting k (ByFormula e)
IsKept (grammar.InPieces k done last) = (1 ≤ k) × (k ≤ grammar.most_variables) × AreKeptPieces k (done ++ last ∷ [])
IsKept (grammar.InForms k forms) = (1 ≤ k) × (k ≤ grammar.most_variables) × AreKeptForms k forms
