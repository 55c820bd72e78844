use Rattle.std.proofs.Common.{◌≡◌, ◌++◌, Bool, drop}
use Rattle.crn_gates.specs.Pairs.{rails_of_uses, AreUses}
use Rattle.crn_gates.proofs.fan.originals.Given as goal

abbrev pub invariant-loop-each : goal.invariant-loop-each
invariant-loop-each l =
    ((context : Bool) × AreUses l.variables context (drop l.each-index l.uses))
    × (l.rails.items ++ rails_of_uses l.variables (drop l.each-index l.uses) ≡ rails_of_uses l.variables l.uses)
