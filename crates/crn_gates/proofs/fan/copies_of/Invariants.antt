use Rattle.std.proofs.Common.{◌≡◌, ◌+◌, ◌++◌, drop}
use Rattle.crn_net.specs.Views.{parts_of}
use Rattle.crn_gates.specs.FanOut as plain
use Rattle.crn_gates.proofs.fan.copies_of.Given as goal

abbrev pub invariant-loop-index : goal.invariant-loop-index
invariant-loop-index l =
    parts_of l.parts.items ++ plain.copies_of l.rail (drop l.index l.originals) (l.species + l.index) ≡ plain.copies_of l.rail l.originals l.species
