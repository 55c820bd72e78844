use Rattle.std.proofs.Common.{drop}
use Rattle.crn_formula.proofs.Steps.{DecideFrom}
use Rattle.crn_formula.proofs.pieces.all_hold.Given as goal

abbrev pub invariant-loop-condition : goal.invariant-loop-condition
invariant-loop-condition l = DecideFrom l.conditions (drop l.condition-index l.conditions) l.x
