use Rattle.std.proofs.Common.{◌≡◌, ◌++◌, drop}
use Rattle.crn_net.specs.Views.{parts_of}
use Rattle.crn_net.specs.Takers.{entries_of}
use Rattle.crn_net.proofs.takers.push_entries.Given as goal

abbrev pub invariant-loop-part : goal.invariant-loop-part
invariant-loop-part l =
    l.entries.items ++ entries_of l.number (parts_of (drop l.part-index l.takes)) ≡ l.initial.entries.items ++ entries_of l.number (parts_of l.takes)
