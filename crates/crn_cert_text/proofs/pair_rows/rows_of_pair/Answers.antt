use Rattle.std.proofs.Common.{◌≡◌, ◌≤◌, ◌∙◌, List, [], ◌∷◌, ◌++◌, length, arith}
use Rattle.crn_linear.specs.Rows.{Row, violation}
use Rattle.crn_formula.specs.Pieces.{Piece}
use Rattle.crn_formula.specs.Functions.{IsPieceOver, condition_count}
use Rattle.crn_formula.specs.Views.{pieces_of}
use Rattle.crn_linear.specs.FormRows.{above_row}
use Rattle.crn_pieces.specs.Systems.{condition_rows}
use Rattle.crn_pieces.specs.Pairs.{piece_at}
use Rattle.crn_pieces.proofs.ClearSteps.{at_number}
use Rattle.crn_pieces.proofs.PairAsked.{rows_here}
use Rattle.crn_cert_text.proofs.PairRows.{rows_of_pair, same_rows, below_is, pair_long, pair_few}
use Rattle.crn_cert_text.proofs.pair_rows.rows_of_pair.Goals as goal
use Rattle.crn_cert_text.proofs.pair_rows.rows_of_pair.Goals.{After-as_slice-two}

high : (c : After-as_slice-two) → c.args.pair.0 ≤ length c.args.pieces.now
high c = omega arith

low : (c : After-as_slice-two) → 1 ≤ c.args.pair.1
low c = omega arith

abbrev a : After-as_slice-two → Piece
a c = piece_at (pieces_of c.args.pieces.now) c.args.pair.0

abbrev b : After-as_slice-two → Piece
b c = piece_at (pieces_of c.args.pieces.now) c.args.pair.1

one : (c : After-as_slice-two) → c.as_slice-one.result.now ≡ condition_rows (a c)
one c = c.as_slice-one.ensures.value ∙ rows_here c.args.conditions.now c.args.pieces.now c.args.pair.0 c.index-conditions-first.result c.requires.conditions c.requires.low (high c) c.index-conditions-first.is

two : (c : After-as_slice-two) → c.as_slice-two.result.now ≡ condition_rows (b c)
two c = c.as_slice-two.ensures.value ∙ rows_here c.args.conditions.now c.args.pieces.now c.args.pair.1 c.index-conditions-second.result c.requires.conditions (low c) c.requires.high c.index-conditions-second.is

over_a : (c : After-as_slice-two) → IsPieceOver c.args.columns (a c)
over_a c = at_number (IsPieceOver c.args.columns) c.args.pieces.now c.args.pair.0 c.requires.low (high c) c.requires.lengths

over_b : (c : After-as_slice-two) → IsPieceOver c.args.columns (b c)
over_b c = at_number (IsPieceOver c.args.columns) c.args.pieces.now c.args.pair.1 (low c) c.requires.high c.requires.lengths

few_a : (c : After-as_slice-two) → condition_count (a c) ≤ 16
few_a c = at_number (λ p. condition_count p ≤ 16) c.args.pieces.now c.args.pair.0 c.requires.low (high c) c.requires.few

few_b : (c : After-as_slice-two) → condition_count (b c) ≤ 16
few_b c = at_number (λ p. condition_count p ≤ 16) c.args.pieces.now c.args.pair.1 (low c) c.requires.high c.requires.few

abbrev first_is : After-as_slice-two → List Row → Type 0
first_is s rows = rows ≡ rows_of_pair (a s) (b s) (above_row (a s).form (b s).form)

abbrev second_is : After-as_slice-two → List Row → Type 0
second_is s rows = rows ≡ rows_of_pair (a s) (b s) (above_row (b s).form (a s).form)

made_first : (s : After-as_slice-two) (above : Row) (rows : List Row) → above ≡ above_row (a s).form (b s).form → rows ≡ s.as_slice-one.result.now ++ (s.as_slice-two.result.now ++ above ∷ []) → first_is s rows
made_first s above rows e f = same_rows (a s) (b s) s.as_slice-one.result.now s.as_slice-two.result.now rows above (above_row (a s).form (b s).form) (one s) (two s) e f

made_second : (s : After-as_slice-two) (above below : Row) (rows : List Row) → above ≡ above_row (a s).form (b s).form → below ≡ violation above → rows ≡ s.as_slice-one.result.now ++ (s.as_slice-two.result.now ++ below ∷ []) → second_is s rows
made_second s above below rows e g f =
    same_rows (a s) (b s) s.as_slice-one.result.now s.as_slice-two.result.now rows below (above_row (b s).form (a s).form) (one s) (two s) (below_is (a s).form (b s).form above below e g) f

pub returns-clause-first : goal.returns-clause-first
returns-clause-first c =
    let s = (goal.at.returns-clause-first c).After-as_slice-two in
    made_first s c.in-Ok.above c.in_ok-first_rows.first_rows.items c.in-Ok.ensures.1 c.in_ok-first_rows.ensures

pub returns-clause-second : goal.returns-clause-second
returns-clause-second c =
    let s = (goal.at.returns-clause-second c).After-as_slice-two in
    made_second s c.in-Ok.above c.opposite.result c.in_ok-second_rows.second_rows.items c.in-Ok.ensures.1 c.opposite.ensures c.in_ok-second_rows.ensures

pub returns-clause-lengths : goal.returns-clause-lengths
returns-clause-lengths c =
    let s = (goal.at.returns-clause-lengths c).After-as_slice-two in (
      pair_long c.args.columns (a s) (b s) (a s).form (b s).form (over_a s) (over_b s) (over_a s).form (over_b s).form c.in_ok-first_rows.first_rows.items
          (made_first s c.in-Ok.above c.in_ok-first_rows.first_rows.items c.in-Ok.ensures.1 c.in_ok-first_rows.ensures),
      pair_long c.args.columns (a s) (b s) (b s).form (a s).form (over_a s) (over_b s) (over_b s).form (over_a s).form c.in_ok-second_rows.second_rows.items
          (made_second s c.in-Ok.above c.opposite.result c.in_ok-second_rows.second_rows.items c.in-Ok.ensures.1 c.opposite.ensures c.in_ok-second_rows.ensures),
    )

pub returns-clause-few : goal.returns-clause-few
returns-clause-few c =
    let s = (goal.at.returns-clause-few c).After-as_slice-two in (
      pair_few (a s) (b s) (above_row (a s).form (b s).form) c.in_ok-first_rows.first_rows.items (few_a s) (few_b s)
          (made_first s c.in-Ok.above c.in_ok-first_rows.first_rows.items c.in-Ok.ensures.1 c.in_ok-first_rows.ensures),
      pair_few (a s) (b s) (above_row (b s).form (a s).form) c.in_ok-second_rows.second_rows.items (few_a s) (few_b s)
          (made_second s c.in-Ok.above c.opposite.result c.in_ok-second_rows.second_rows.items c.in-Ok.ensures.1 c.opposite.ensures c.in_ok-second_rows.ensures),
    )
