-- Functions: their forms, their value, and the rule that every function keeps.
use Rattle.std.specs.Prelude.{◌≡◌, ℕ, ◌+◌, ◌≤◌, Bool, false, cond, ◌||◌, pos, List, [], ◌∷◌, ◌++◌, length, Option, Some, All}
use Rattle.std.specs.List.{fold, list_any, sum_by}
use Rattle.crn_fraction.specs.Rational.{ℚ, whole, 0ℚ, ◌≤ℚ◌, min_ℚ}
use Rattle.crn_linear.specs.Forms.{at, IsValueInReach}
use Rattle.crn_formula.specs.Formulas.{Formula, formula_value, IsFormulaInReach, node_count, depth_of, IsOver, has_constant, formula_has_constant}
use Rattle.crn_formula.specs.Pieces.{Piece, pieces_value, ArePiecesInReach}

-- a formula, pieces, or forms of which the least counts
pub data Kind : Type 0 where
  ByFormula : Formula → Kind
  ByPieces : List Piece → Kind
  ByLeast : List (List ℚ) → Kind

-- the least value of the forms, which is 0 where there are none
abbrev pub least_value : List (List ℚ) → List ℚ → ℚ
least_value [] x = 0ℚ
least_value (form ∷ forms) x = fold (λ m f. min_ℚ m (at f x)) (at form x) forms

-- the value at a point with a number for each column of the forms
abbrev pub kind_value : Kind → List ℚ → Option ℚ
kind_value (ByFormula e) x = Some (formula_value e x)
kind_value (ByPieces pieces) x = pieces_value pieces x
kind_value (ByLeast forms) x = Some (least_value forms x)

-- each number that is formed on the way is a fraction that fits
abbrev pub IsKindInReach : Kind → List ℚ → Type 0
IsKindInReach (ByFormula e) x = IsFormulaInReach e x
IsKindInReach (ByPieces pieces) x = ArePiecesInReach pieces x
IsKindInReach (ByLeast forms) x = All (λ f. IsValueInReach f x) forms

-- ---- constants
-- the form or a condition of the piece has one
abbrev pub piece_has_constant : ℕ → Piece → Bool
piece_has_constant k piece = has_constant k piece.form || list_any (has_constant k) piece.conditions

-- some form of a function of k variables, conditions included, has a constant other than 0
abbrev pub is_affine : ℕ → Kind → Bool
is_affine k (ByFormula e) = formula_has_constant k e
is_affine k (ByPieces pieces) = list_any (piece_has_constant k) pieces
is_affine k (ByLeast forms) = list_any (has_constant k) forms

-- an affine function has one column more, for the constants
abbrev pub columns : ℕ → Kind → ℕ
columns k kind = cond (is_affine k kind) (k + 1) k

-- the point at which the forms are taken: in that column the amounts are followed by 1
abbrev pub point_of : ℕ → Kind → List ℚ → List ℚ
point_of k kind x = cond (is_affine k kind) (x ++ whole (pos 1) ∷ []) x

-- ---- the rule
-- each form of the piece, conditions included, has n columns
pub record IsPieceOver (n : ℕ) (piece : Piece) : Type 0 where
  pub form : length piece.form ≡ n
  pub conditions : All (λ c. length c ≡ n) piece.conditions

-- each form has n columns
abbrev pub IsKindOver : ℕ → Kind → Type 0
IsKindOver n (ByFormula e) = IsOver n e
IsKindOver n (ByPieces pieces) = All (IsPieceOver n) pieces
IsKindOver n (ByLeast forms) = All (λ f. length f ≡ n) forms

-- at most 2,048 nodes, and at most 64 of them below one another
pub record IsSmallFormula (e : Formula) : Type 0 where
  pub nodes : node_count e ≤ 2048
  pub depth : depth_of e ≤ 64

-- 1 to 32 pieces, with at most 16 conditions each and 100 together
pub record AreFewPieces {X : Type 0} (count_of : X → ℕ) (pieces : List X) : Type 0 where
  pub some : 1 ≤ length pieces
  pub few : length pieces ≤ 32
  pub each : All (λ p. count_of p ≤ 16) pieces
  pub together : sum_by count_of pieces ≤ 100

-- how many conditions a piece has
abbrev pub condition_count : Piece → ℕ
condition_count piece = length piece.conditions

-- 1 to 32 forms without a negative coefficient
pub record AreFewForms (forms : List (List ℚ)) : Type 0 where
  pub some : 1 ≤ length forms
  pub few : length forms ≤ 32
  pub nonnegative : All (All (λ c. 0ℚ ≤ℚ c)) forms

-- forms of which the least counts are at least one
abbrev pub HasSome : Kind → Type 0
HasSome (ByFormula e) = Unit {0}
HasSome (ByPieces pieces) = Unit {0}
HasSome (ByLeast forms) = 1 ≤ length forms

-- within the limits of its kind. Forms of which the least counts have no constants
abbrev pub IsWithinLimits : (affine : Bool) → Kind → Type 0
IsWithinLimits affine (ByFormula e) = IsSmallFormula e
IsWithinLimits affine (ByPieces pieces) = AreFewPieces condition_count pieces
IsWithinLimits affine (ByLeast forms) = AreFewForms forms × (affine ≡ false)

-- 1 to 8 variables, forms of as many columns as the function has, and counts within the limits
pub record IsFitting (k : ℕ) (kind : Kind) : Type 0 where
  pub some : 1 ≤ k
  pub few : k ≤ 8
  pub forms : IsKindOver (columns k kind) kind
  pub limits : IsWithinLimits (is_affine k kind) kind

-- it is given by pieces
abbrev pub IsGivenByPieces : Kind → Type 0
IsGivenByPieces (ByFormula e) = ⊥
IsGivenByPieces (ByPieces pieces) = Unit {0}
IsGivenByPieces (ByLeast forms) = ⊥
