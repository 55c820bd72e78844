use Rattle.crn_cells.specs.Insertion.{ComesBetween}
use Rattle.crn_cells.specs.Answers.{order_of, AreExtensions}
use Rattle.crn_cells.proofs.places.insert_upward.Given as goal

abbrev pub invariant-loop-place : goal.invariant-loop-place
invariant-loop-place l = AreExtensions l.domain l.differences l.cell (ComesBetween l.start l.place (order_of l.cell)) l.found.items
