use Rattle.std.proofs.Common.{◌≡◌, ◌++◌, take, string_bytes}
use Rattle.std.specs.Prelude.{All}
use Rattle.crn_token.specs.Printed.{printed}
use Rattle.std.specs.List.{flat_map}
use Rattle.crn_formula.specs.Views.{piece_of, pieces_of}
use Rattle.crn_function_text.specs.Printing.{piece_lines, ArePieceFracs}
use Rattle.crn_function_text.proofs.print.write_pieces.Given as goal

-- the lines so far, of numbers that fit
abbrev pub invariant-loop-piece : goal.invariant-loop-piece
invariant-loop-piece l = (string_bytes l.out ≡ string_bytes l.fn.out ++ printed (flat_map (piece_lines l.variables) (pieces_of (take l.piece-index l.pieces)))) × All (λ p. ArePieceFracs l.variables (piece_of p)) (take l.piece-index l.pieces)
