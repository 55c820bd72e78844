-- Superadditive functions, the forms that a function uses, and what refutes that it is superadditive.
use Rattle.std.specs.Prelude.{◌≡◌, ℕ, zero, suc, ◌+◌, ◌/◌, ◌<◌, ◌≤◌, ◌==◌, max, ◌-◌, Bool, false, cond, ℤ, pos, int_lt, unsigned_abs, slice_index_or, List, map, length, Some, All, Any}
use Rattle.std.specs.List.{filter, list_any}
use Rattle.crn_fraction.specs.Rational.{ℚ, whole, 0ℚ, ◌+ℚ◌, ◌*ℚ◌, ◌≤ℚ◌, ◌<ℚ◌}
use Rattle.crn_linear.specs.Forms.{wholes, minus, entry_of, plus}
use Rattle.crn_linear.specs.Rows.{dot}
use Rattle.crn_linear.specs.Cleared.{cleared}
use Rattle.crn_formula.specs.Pieces.{Piece, Domain, IsIn, pieces_value}
use Rattle.crn_formula.specs.Functions.{least_value}
use Rattle.crn_formula.specs.Domains.{unit}
use Rattle.crn_cells.specs.Cells.{numbered, Ascend}
use Rattle.crn_maxmin.specs.Marked.{Marked}
use Rattle.crn_maxmin.specs.Conversion.{numbers, forms_below}

-- a whole multiple of a point
abbrev pub multiple : ℕ → List ℚ → List ℚ
multiple n x = map (λ t. whole (pos n) *ℚ t) x

-- the value at a sum of two points of the domain is at least the sum of the two values
pub record IsSuperadditive (domain : Domain) (pieces : List Piece) : Type 0 where
  pub above : (a b : List ℚ) → IsIn domain a → IsIn domain b → (u v w : ℚ)
      → pieces_value pieces a ≡ Some u → pieces_value pieces b ≡ Some v → pieces_value pieces (plus a b) ≡ Some w
      → u +ℚ v ≤ℚ w

-- the same of points of whole numbers alone
pub record IsWholeSuperadditive (domain : Domain) (pieces : List Piece) : Type 0 where
  pub above : (p q : List ℤ) → IsIn domain (wholes p) → IsIn domain (wholes q) → (u v w : ℚ)
      → pieces_value pieces (wholes p) ≡ Some u → pieces_value pieces (wholes q) ≡ Some v
      → pieces_value pieces (plus (wholes p) (wholes q)) ≡ Some w → u +ℚ v ≤ℚ w

-- the value at the sum of two points is less than the sum of the two values
pub record FallsShort (pieces : List Piece) (a b : List ℚ) : Type 0 where
  pub at_first : ℚ
  pub at_second : ℚ
  pub at_sum : ℚ
  pub first : pieces_value pieces a ≡ Some at_first
  pub second : pieces_value pieces b ≡ Some at_second
  pub both : pieces_value pieces (plus a b) ≡ Some at_sum
  pub less : at_sum <ℚ at_first +ℚ at_second

-- the value at a point is below 0
pub record IsNegativeAt (pieces : List Piece) (x : List ℚ) : Type 0 where
  pub value : ℚ
  pub is_value : pieces_value pieces x ≡ Some value
  pub negative : value <ℚ 0ℚ

-- at no point of the domain it is
abbrev pub IsNonnegative : Domain → List Piece → Type 0
IsNonnegative domain pieces = (x : List ℚ) → IsIn domain x → ¬ IsNegativeAt pieces x

-- the first unit point at which the value is below 0
pub record IsFirstNegative (k : ℕ) (pieces : List Piece) (i : ℕ) : Type 0 where
  pub within : i < k
  pub negative : IsNegativeAt pieces (wholes (unit k i))
  pub first : (j : ℕ) → j < i → ¬ IsNegativeAt pieces (wholes (unit k j))

-- at each point of the domain the function is the least of the forms
abbrev pub IsLeast : Domain → List Piece → List (List ℚ) → Type 0
IsLeast domain pieces forms = (x : List ℚ) → IsIn domain x → pieces_value pieces x ≡ Some (least_value forms x)

-- ---- used forms: those that the function is in some cell
-- some cell has the form of this number
abbrev pub is_used : List Marked → ℕ → Bool
is_used cells i = list_any (λ (c : Marked). c.form == i) cells

-- their numbers ascend
abbrev pub used : List Marked → ℕ → List ℕ
used cells m = filter (is_used cells) (numbers m)

abbrev pub used_forms : List (List ℚ) → List Marked → List (List ℚ)
used_forms forms cells = map (numbered forms) (used cells (length forms))

-- a form has a negative coefficient in the column
abbrev pub IsNegativeIn : List (List ℚ) → ℕ → Type 0
IsNegativeIn forms i = Any (λ f. entry_of f i <ℚ 0ℚ) forms

-- ---- used forms that stand below the form of a cell
-- in no cell does a used form stand below the form of the cell
abbrev pub NoneBelow : List Marked → Type 0
NoneBelow cells = All (λ c. All (λ i. is_used cells i ≡ false) (forms_below c)) cells

-- ---- the least multiple
-- the least multiple of the first point, of at least 1, at which the sum with the second meets the order
pub record IsLeastMultiple (forms : List (List ℚ)) (order : List ℕ) (first second : List ℚ) (n : ℕ) : Type 0 where
  pub some : 1 ≤ n
  pub meets : Ascend forms (plus (multiple n first) second) order
  pub least : (m : ℕ) → 1 ≤ m → Ascend forms (plus (multiple m first) second) order → n ≤ m

-- ---- how it is found
-- the row that is above 0 where the form of the first number is below that of the second
abbrev pub step_row : List (List ℚ) → (i j : ℕ) → List ℤ
step_row forms i j = cleared (minus (numbered forms j) (numbered forms i))

-- how often d, which is above 0, has to be taken at least, so that with e it is above 0: once or more
abbrev pub least_over : (d e : ℤ) → ℕ
least_over d e = cond (int_lt e (pos 0)) (unsigned_abs e / unsigned_abs d + 1) 1

-- for the forms at the places n and n + 1 of an order
abbrev pub times_at : List (List ℚ) → List ℕ → (first second : List ℤ) → ℕ → ℕ
times_at forms order first second n =
    let row = step_row forms (slice_index_or order n 0) (slice_index_or order (suc n) 0) in
    least_over (dot row first) (dot row second)

-- for the first n steps of an order
abbrev pub times_upto : List (List ℚ) → List ℕ → (first second : List ℤ) → ℕ → ℕ
times_upto forms order first second zero = 1
times_upto forms order first second (suc n) =
    max (times_upto forms order first second n) (times_at forms order first second n)

-- for all of them
abbrev pub least_times : List (List ℚ) → List ℕ → (first second : List ℤ) → ℕ
least_times forms order first second = times_upto forms order first second (length order - 1)
