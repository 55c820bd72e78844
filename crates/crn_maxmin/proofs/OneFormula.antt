-- The formula of pieces is one, and pieces that have it have neither too many cells nor, where it is small, too many nodes.
use Rattle.std.proofs.Common.{◌≡◌, ℕ, ◌≤◌, List, map, sym, ap, ◌∙◌, arith}
use Rattle.std.proofs.lemmas.List.{length-map}
use Rattle.crn_formula.specs.Formulas.{Formula, node_count}
use Rattle.crn_formula.specs.Pieces.{Piece, Domain}
use Rattle.crn_pieces.specs.Answers.{AreChecked}
use Rattle.crn_cells.specs.Answers.{AreTooManyCells}
use Rattle.crn_cells.proofs.Sorting.{many_cells}
use Rattle.crn_maxmin.specs.Marked.{Marked, numbered_forms}
use Rattle.crn_maxmin.specs.Conversion.{formula_of}
use Rattle.crn_maxmin.specs.Answers.{IsFormulaOf, HasTooManyNodes}
use Rattle.crn_maxmin.proofs.Prepared.{long_pieces}
use Rattle.crn_maxmin.proofs.Unique.{one_marking}

-- pieces that have a formula have not too many cells
pub few_cells : (domain : Domain) (pieces : List Piece) (f : Formula) → IsFormulaOf domain pieces f → ¬ AreTooManyCells domain (numbered_forms pieces)
few_cells domain pieces f is many =
    let orders = map (λ (c : Marked). c.order) is.cells in
    let l = many_cells domain (numbered_forms pieces) many orders is.all.orders in
    omega (arith, l, length-map is.cells (λ (c : Marked). c.order), is.few)

module _ (domain : Domain) (pieces : List Piece) (checked : AreChecked domain pieces) where
  pub one_formula : (f g : Formula) → IsFormulaOf domain pieces f → IsFormulaOf domain pieces g → f ≡ g
  one_formula f g first second =
      let cells : first.cells ≡ second.cells =
      one_marking domain pieces checked.is_domain (long_pieces domain pieces checked.long) checked.covers checked.agree first.cells second.cells first.all second.all in
      first.is_formula ∙ ap (formula_of (numbered_forms pieces)) cells ∙ sym second.is_formula

  -- so the number of its nodes is one
  pub one_count : (m n : ℕ) → HasTooManyNodes domain pieces m → HasTooManyNodes domain pieces n → m ≡ n
  one_count m n first second = first.2 ∙ ap node_count (one_formula first.0 second.0 first.1 second.1) ∙ sym second.2

  -- and a small formula has not too many
  pub few_nodes : (f : Formula) → IsFormulaOf domain pieces f → node_count f ≤ 2048 → (n : ℕ) → ¬ HasTooManyNodes domain pieces n
  few_nodes f is few n many = omega (arith, ap node_count (one_formula f many.0 is many.1), many.2, many.3, few)
