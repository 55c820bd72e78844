-- Forms are read with a column for the constant. Where every constant is 0, the pieces of a function have no such column.
use Rattle.std.specs.Prelude.{ℕ, List, map, take, if◌then◌else◌}
use Rattle.std.specs.List.{list_any}
use Rattle.crn_formula.specs.Pieces.{Piece}
use Rattle.crn_formula.specs.Functions.{piece_has_constant}

-- the columns of the variables alone
abbrev pub narrow_piece : ℕ → Piece → Piece
narrow_piece k piece = record { conditions = map (take k) piece.conditions; form = take k piece.form }

-- the column of the constants stays only where one of them is not 0
abbrev pub kept_columns : ℕ → List Piece → List Piece
kept_columns k pieces = if list_any (piece_has_constant k) pieces then pieces else map (narrow_piece k) pieces
