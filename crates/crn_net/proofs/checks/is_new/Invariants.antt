use Rattle.std.proofs.Common.{take}
use Rattle.crn_net.specs.Network.{IsApart, input_species}
use Rattle.crn_net.proofs.checks.is_new.Given as goal

abbrev pub invariant-loop-ends : goal.invariant-loop-ends
invariant-loop-ends l = IsApart l.species (input_species (take l.ends-index l.inputs))
