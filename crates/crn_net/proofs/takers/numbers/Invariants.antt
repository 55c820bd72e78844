use Rattle.std.proofs.Common.{◌-◌, length, take, drop}
use Rattle.crn_net.specs.Takers.{AreEntries}
use Rattle.crn_net.proofs.TakersTable.{Filled}
use Rattle.crn_net.proofs.takers.numbers.Given as goal

abbrev pub invariant-loop-entry : goal.invariant-loop-entry
invariant-loop-entry l =
    AreEntries (length l.starts - 1) (drop l.entry-index l.entries) × Filled (length l.starts - 1) l.starts (take l.entry-index l.entries) l.next.items l.numbers.items
