use Rattle.std.proofs.Common.{◌≡◌, ◌++◌, suc, drop}
use Rattle.crn_net.specs.Views.{reactions_of}
use Rattle.crn_net.specs.Takers.{entries_from}
use Rattle.crn_net.proofs.takers.entries.Given as goal

abbrev pub invariant-loop-index : goal.invariant-loop-index
invariant-loop-index l = l.entries.items ++ entries_from (suc l.index) (reactions_of (drop l.index l.reactions)) ≡ entries_from 1 (reactions_of l.reactions)
