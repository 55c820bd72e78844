use Rattle.std.proofs.Common.{◌≡◌, ◌+◌, take, length}
use Rattle.crn_farkas.specs.Rooms.{kept}
use Rattle.crn_formula.specs.Pieces.{columns_of}
use Rattle.crn_same.proofs.questions.domain_system.Given as goal

abbrev pub invariant-loop-row : goal.invariant-loop-row
invariant-loop-row l = l.system ≡ kept (columns_of l.domain) (length l.rows + l.more) (take l.row-index l.rows)
