use Rattle.std.proofs.Common.{◌≡◌, ◌+◌, ◌++◌, length, drop}
use Rattle.crn_gates.specs.Pairs.{rails_of_uses, copies_after}
use Rattle.crn_gates.proofs.fan.copies.Given as goal

abbrev pub invariant-loop-each : goal.invariant-loop-each
invariant-loop-each l =
    (l.last + length (rails_of_uses l.variables (drop l.each-index l.uses)) ≡ l.species + length (rails_of_uses l.variables l.uses))
    × (l.copies.items ++ copies_after l.last (drop l.each-index l.uses) ≡ copies_after l.species l.uses)
