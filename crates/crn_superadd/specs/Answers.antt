-- What is answered of a function that was checked.
use Rattle.std.specs.Prelude.{◌≡◌, ◌≢◌, ℕ, ◌+◌, ◌<◌, ◌≤◌, ◌^◌, ℤ, List, [], length, slice_index_or, Option, Some, None, All, Err}
use Rattle.std.specs.List.{find}
use Rattle.crn_fraction.specs.Rational.{ℚ}
use Rattle.crn_linear.specs.Forms.{wholes}
use Rattle.crn_formula.specs.Pieces.{Piece, Domain, columns_of}
use Rattle.crn_formula.specs.Domains.{unit}
use Rattle.crn_formula.specs.Functions.{AreFewForms}
use Rattle.crn_superadd.specs.declared.SuperError.{SuperError}
use Rattle.crn_superadd.specs.declared.SuperError.TheVariants.{TooBig, TooManyRows, TooManyCells, NotSuperadditive, Negative, Memory}
use Rattle.crn_feasible.specs.Elimination.{elimination, passes, too_many}
use Rattle.crn_cells.specs.Systems.{IsAskedOrder}
use Rattle.crn_cells.specs.Answers.{AreTooManyCells}
use Rattle.crn_cells.specs.declared.CellsError.{CellsError}
use Rattle.crn_cells.specs.declared.CellsError.TheVariants as cells
use Rattle.crn_maxmin.specs.Marked.{Marked, numbered_forms, IsMarkedBy, AreAllCells}
use Rattle.crn_superadd.specs.Superadditive.{IsSuperadditive, FallsShort, IsLeast, IsNonnegative, IsFirstNegative, IsLeastMultiple, is_used, used_forms, multiple}
use Rattle.crn_maxmin.specs.Conversion.{forms_below}

-- the lowest used form below that of the cell
abbrev pub lowest_used : List Marked → Marked → Option ℕ
lowest_used cells cell = find (is_used cells) (forms_below cell)

-- the cell at a place
abbrev pub cell_at : List Marked → ℕ → Marked
cell_at cells i = slice_index_or cells i (record { order = []; form = 0 })

-- there is none in any cell
abbrev pub HasNoneBelow : List Marked → Type 0
HasNoneBelow cells = (i : ℕ) → i < length cells → lowest_used cells (cell_at cells i) ≡ None

-- high is the place of the first cell in which there is one, and low that of the first cell that has this form
pub record IsFirstBelow (cells : List Marked) (low high : ℕ) : Type 0 where
  pub low_within : low < length cells
  pub high_within : high < length cells
  pub found : lowest_used cells (cell_at cells high) ≡ Some (cell_at cells low).form
  pub none_before : (i : ℕ) → i < high → lowest_used cells (cell_at cells i) ≡ None
  pub first_with : (i : ℕ) → i < low → (cell_at cells i).form ≢ (cell_at cells low).form

-- Two points and a multiple of the first show that the function is not superadditive: those of the cells at low and high, and the least multiple that, with the second
-- point, meets the order of the cell at low.
pub record IsRefuted (domain : Domain) (pieces : List Piece) (first : List ℤ) (times : ℕ) (second : List ℤ)
    : Type 0 where
  pub cells : List Marked
  pub all : AreAllCells domain pieces cells
  pub few_cells : length cells ≤ 4096
  pub low : ℕ
  pub high : ℕ
  pub places : IsFirstBelow cells low high
  pub at_first : IsMarkedBy domain pieces (cell_at cells low) first
  pub at_second : IsMarkedBy domain pieces (cell_at cells high) second
  pub least : IsLeastMultiple (numbered_forms pieces) (cell_at cells low).order (wholes first) (wholes second) times
  pub short : FallsShort pieces (multiple times (wholes first)) (wholes second)
  pub refuted : ¬ IsSuperadditive domain pieces

-- the function is superadditive, and the point is the first unit point at which it is negative
pub record IsNegative (domain : Domain) (pieces : List Piece) (point : List ℤ) : Type 0 where
  pub cells : List Marked
  pub all : AreAllCells domain pieces cells
  pub few_cells : length cells ≤ 4096
  pub superadditive : IsSuperadditive domain pieces
  pub index : ℕ
  pub first : IsFirstNegative (columns_of domain) pieces index
  pub is : point ≡ unit (columns_of domain) index

-- They are the used forms of a superadditive function that is nowhere negative: it is the least of them, and they are few and without a negative coefficient.
pub record AreUsedForms (domain : Domain) (pieces : List Piece) (forms : List (List ℚ)) : Type 0 where
  pub superadditive : IsSuperadditive domain pieces
  pub cells : List Marked
  pub all : AreAllCells domain pieces cells
  pub few_cells : length cells ≤ 4096
  pub used : forms ≡ used_forms (numbered_forms pieces) cells
  pub least : IsLeast domain pieces forms
  pub nonnegative : IsNonnegative domain pieces
  pub long : All (λ f. length f ≡ columns_of domain) forms
  pub few : AreFewForms forms

-- how the refusal of cells refuses the forms
abbrev pub refusal_of : CellsError → SuperError
refusal_of (cells.TooBig kept) = TooBig kept
refusal_of (cells.TooManyRows kept) = TooManyRows kept
refusal_of (cells.TooManyCells count) = TooManyCells count
refusal_of cells.Memory = Memory

-- why they do not come: elimination passes a limit on the order system that is kept, there are 4,097 cells, or the function is not superadditive, or is negative
abbrev pub IsRefused : Domain → List Piece → SuperError → Type 0
IsRefused domain pieces (TooBig kept) =
    IsAskedOrder domain (numbered_forms pieces) kept.system × (elimination kept.system ≡ Err passes)
IsRefused domain pieces (TooManyRows kept) =
    IsAskedOrder domain (numbered_forms pieces) kept.system × (elimination kept.system ≡ Err too_many)
IsRefused domain pieces (TooManyCells count) = (count ≡ 4097) × AreTooManyCells domain (numbered_forms pieces)
IsRefused domain pieces (NotSuperadditive first times second) = IsRefuted domain pieces first times second
IsRefused domain pieces (Negative point) = IsNegative domain pieces point
IsRefused domain pieces Memory = Unit {0}

-- the multiple that is told is at most 2 ^ 121 + 1
abbrev pub HasSmallMultiple : SuperError → Type 0
HasSmallMultiple (NotSuperadditive first times second) = times ≤ 2 ^ 121 + 1
HasSmallMultiple error = Unit {0}
