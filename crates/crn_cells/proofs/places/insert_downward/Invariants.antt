use Rattle.std.proofs.Common.{suc, length}
use Rattle.crn_cells.specs.Insertion.{ComesBetween}
use Rattle.crn_cells.specs.Answers.{order_of, AreExtensions}
use Rattle.crn_cells.proofs.places.insert_downward.Given as goal

abbrev pub invariant-loop-place : goal.invariant-loop-place
invariant-loop-place l = AreExtensions l.domain l.differences l.cell (ComesBetween l.place (suc (length (order_of l.cell))) (order_of l.cell)) l.found.items
