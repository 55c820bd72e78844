use Rattle.std.proofs.Common.{◌≡◌, take}
use Rattle.crn_normal.specs.Codes.{lists_of, sets_at}
use Rattle.crn_normal.proofs.steps.written.Given as goal

abbrev pub invariant-loop-set : goal.invariant-loop-set
invariant-loop-set l = lists_of l.written.items ≡ sets_at l.table.keys (take l.set-index l.sets)
