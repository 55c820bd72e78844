use Rattle.std.proofs.Common.{◌≡◌, ◌++◌, take, drop, map}
use Rattle.crn_formula.specs.Views.{piece_of}
use Rattle.crn_function_text.specs.Columns.{narrow_piece}
use Rattle.crn_function_text.proofs.columns.narrow_pieces.Given as goal

abbrev pub invariant-loop-piece : goal.invariant-loop-piece
invariant-loop-piece l =
    map piece_of (take l.piece-index l.pieces) ++ map (λ p. narrow_piece l.variables (piece_of p)) (drop l.piece-index l.pieces) ≡ map (λ p. narrow_piece l.variables (piece_of p)) l.fn.pieces
