use Rattle.std.proofs.Common.{◌≡◌, ◌-◌, suc, ◌++◌}
use Rattle.crn_net.specs.Views.{reactions_of}
use Rattle.crn_gates.specs.FanOut as plain
use Rattle.crn_gates.proofs.fan.fan.Given as goal

abbrev pub invariant-loop-earlier : goal.invariant-loop-earlier
invariant-loop-earlier l =
    reactions_of l.reactions.items ++ plain.fans (suc l.earlier) (l.species - l.earlier) l.originals l.species ≡ plain.fans 1 l.species l.originals l.species
