use Rattle.std.proofs.Common.{◌≡◌, ◌+◌, ◌≤◌, length, drop}
use Rattle.crn_gates.specs.Pairs.{rails_of_uses}
use Rattle.crn_gates.proofs.fan.with_copies.Given as goal

abbrev pub invariant-loop-each : goal.invariant-loop-each
invariant-loop-each l =
    (l.last ≤ 65536) × (l.last + length (rails_of_uses l.variables (drop l.each-index l.uses)) ≡ l.species + length (rails_of_uses l.variables l.uses))
