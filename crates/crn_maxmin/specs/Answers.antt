-- Which systems may be asked for a function by pieces, and why there is no formula.
use Rattle.std.specs.Prelude.{◌≡◌, ◌⊎◌, ℕ, ◌<◌, ◌≤◌, List, length, Some, Err}
use Rattle.crn_fraction.specs.Rational.{ℚ}
use Rattle.crn_farkas.specs.Systems.{System}
use Rattle.crn_feasible.specs.Elimination.{elimination, passes, too_many}
use Rattle.crn_formula.specs.declared.formula.Formula as rust
use Rattle.crn_formula.specs.Views.{plain_of}
use Rattle.crn_formula.specs.Formulas.{Formula, formula_value, node_count}
use Rattle.crn_formula.specs.Pieces.{Piece, Domain, IsIn, Covers, Agree, pieces_value}
use Rattle.crn_pieces.specs.Systems.{rows_of}
use Rattle.crn_pieces.specs.Choices.{IsAskedCover}
use Rattle.crn_pieces.specs.Pairs.{IsAskedPair}
use Rattle.crn_cells.specs.Systems.{IsAskedOrder}
use Rattle.crn_cells.specs.Answers.{AreTooManyCells}
use Rattle.crn_maxmin.specs.Marked.{Marked, numbered_forms, AreAllCells}
use Rattle.crn_maxmin.specs.Conversion.{formula_of}
use Rattle.crn_cells.specs.declared.CellsError.{CellsError}
use Rattle.crn_cells.specs.declared.CellsError.TheVariants as cells
use Rattle.crn_maxmin.specs.declared.MaxminError.{MaxminError}
use Rattle.crn_maxmin.specs.declared.MaxminError.TheVariants.{TooBig, TooManyRows, TooManyCells, TooManyNodes, Memory}

-- a system that may be asked: a pair system; where all pieces agree, a cover system; where they also cover the domain, an order system
abbrev pub IsAsked : Domain → List Piece → System → Type 0
IsAsked domain pieces s =
    IsAskedPair domain pieces s
    ⊎ ((Agree domain pieces × IsAskedCover domain (rows_of pieces) s)
    ⊎ (Covers domain pieces × Agree domain pieces × IsAskedOrder domain (numbered_forms pieces) s))

-- the formula of all cells of the pieces, of which there are at most 4,096
pub record IsFormulaOf (domain : Domain) (pieces : List Piece) (f : Formula) : Type 0 where
  pub cells : List Marked
  pub all : AreAllCells domain pieces cells
  pub few : length cells ≤ 4096
  pub is_formula : f ≡ formula_of (numbered_forms pieces) cells

-- it has so many nodes, which are more than 2,048
abbrev pub HasTooManyNodes : Domain → List Piece → ℕ → Type 0
HasTooManyNodes domain pieces count =
    (f : Formula) × IsFormulaOf domain pieces f × (count ≡ node_count f) × (2048 < count)

-- why there is no formula
abbrev pub IsRefused : Domain → List Piece → MaxminError → Type 0
IsRefused domain pieces (TooBig kept) = IsAsked domain pieces kept.system × (elimination kept.system ≡ Err passes)
IsRefused domain pieces (TooManyRows kept) =
    IsAsked domain pieces kept.system × (elimination kept.system ≡ Err too_many)
IsRefused domain pieces (TooManyCells count) = (count ≡ 4097) × AreTooManyCells domain (numbered_forms pieces)
IsRefused domain pieces (TooManyNodes count) = HasTooManyNodes domain pieces count
IsRefused domain pieces Memory = Unit {0}

-- how the refusal of cells refuses the formula
abbrev pub refusal_of : CellsError → MaxminError
refusal_of (cells.TooBig kept) = TooBig kept
refusal_of (cells.TooManyRows kept) = TooManyRows kept
refusal_of (cells.TooManyCells count) = TooManyCells count
refusal_of cells.Memory = Memory

-- at every point of the domain the formula has the value of the pieces
abbrev pub HasValue : Domain → List Piece → Formula → Type 0
HasValue domain pieces f = (x : List ℚ) → IsIn domain x → pieces_value pieces x ≡ Some (formula_value f x)

-- ---- the same, of the formula of some cells
-- it is the formula, and has at most 2,048 nodes
pub record IsSmallFormula (wanted : Formula) (f : rust.Formula) : Type 0 where
  pub is : plain_of f ≡ wanted
  pub nodes : node_count (plain_of f) ≤ 2048

abbrev pub IsTooLarge : Formula → MaxminError → Type 0
IsTooLarge wanted (TooBig kept) = ⊥
IsTooLarge wanted (TooManyRows kept) = ⊥
IsTooLarge wanted (TooManyCells count) = ⊥
IsTooLarge wanted (TooManyNodes count) = (count ≡ node_count wanted) × (2048 < count)
IsTooLarge wanted Memory = Unit {0}
