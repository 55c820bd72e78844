-- The answers exclude one another.
use Rattle.std.proofs.Common.{ℕ, ◌≤◌, List, length, map, arith, subst}
use Rattle.std.specs.Prelude.{ℤ}
use Rattle.std.proofs.lemmas.List.{length-map}
use Rattle.crn_fraction.specs.Rational.{ℚ}
use Rattle.crn_linear.specs.Forms.{wholes}
use Rattle.crn_formula.specs.Pieces.{Piece, Domain}
use Rattle.crn_formula.specs.Domains.{unit, orthant}
use Rattle.crn_cells.specs.Answers.{AreTooManyCells}
use Rattle.crn_cells.proofs.Sorting.{many_cells}
use Rattle.crn_maxmin.specs.Marked.{Marked, numbered_forms, AreAllCells}
use Rattle.crn_superadd.specs.Superadditive.{IsNegativeAt}
use Rattle.crn_superadd.specs.Answers.{IsRefuted, IsNegative, AreUsedForms}
use Rattle.crn_superadd.proofs.Orthant.{columns_of_orthant, unit_in_orthant}

pub not_refuted : (domain : Domain) (pieces : List Piece) (forms : List (List ℚ)) → AreUsedForms domain pieces forms → (p : List ℤ) (t : ℕ) (q : List ℤ) → ¬ IsRefuted domain pieces p t q
not_refuted domain pieces forms used p t q r = r.refuted used.superadditive

pub negative_is_not_refuted : (domain : Domain) (pieces : List Piece) (point : List ℤ) → IsNegative domain pieces point → (p : List ℤ) (t : ℕ) (q : List ℤ) → ¬ IsRefuted domain pieces p t q
negative_is_not_refuted domain pieces point n p t q r = r.refuted n.superadditive

pub not_negative : (k : ℕ) (pieces : List Piece) (forms : List (List ℚ)) → AreUsedForms (orthant k) pieces forms → (point : List ℤ) → ¬ IsNegative (orthant k) pieces point
not_negative k pieces forms used point n =
    let at : IsNegativeAt pieces (wholes (unit k n.index)) = subst (λ m. IsNegativeAt pieces (wholes (unit m n.index))) (columns_of_orthant k) n.first.negative in
    used.nonnegative (wholes (unit k n.index)) (unit_in_orthant k n.index) at

-- where a list of all cells has at most 4,096 of them, there are not 4,097
pub not_too_many : (domain : Domain) (pieces : List Piece) (cells : List Marked) → AreAllCells domain pieces cells → length cells ≤ 4096 → ¬ AreTooManyCells domain (numbered_forms pieces)
not_too_many domain pieces cells all few many =
    let long = many_cells domain (numbered_forms pieces) many (map (λ (c : Marked). c.order) cells) all.orders in
    let same = length-map cells (λ (c : Marked). c.order) in
    omega (arith, long, same, few)
