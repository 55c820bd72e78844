use Rattle.std.proofs.Common.{drop}
use Rattle.crn_formula.specs.Views.{pieces_of}
use Rattle.crn_formula.proofs.Steps.{ValueFrom}
use Rattle.crn_formula.proofs.pieces.first_value.Given as goal

abbrev pub invariant-loop-piece : goal.invariant-loop-piece
invariant-loop-piece l = ValueFrom (pieces_of l.pieces) (pieces_of (drop l.piece-index l.pieces)) l.x
