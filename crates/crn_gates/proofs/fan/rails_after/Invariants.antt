use Rattle.std.proofs.Common.{◌≡◌, ◌-◌, ◌++◌}
use Rattle.crn_gates.specs.Singles as plain
use Rattle.crn_gates.proofs.fan.rails_after.Given as goal

abbrev pub invariant-loop-earlier : goal.invariant-loop-earlier
invariant-loop-earlier l = l.rails.items ++ plain.rails_after l.earlier (l.last - l.earlier) ≡ plain.rails_after l.species (l.last - l.species)
