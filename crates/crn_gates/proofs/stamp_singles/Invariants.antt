use Rattle.std.proofs.Common.{◌≡◌, ◌++◌, drop}
use Rattle.crn_net.specs.Views.{reactions_of}
use Rattle.crn_gates.specs.Singles.{reactions_of_singles}
use Rattle.crn_gates.proofs.stamp_singles.Given as goal

abbrev pub invariant-loop-factor : goal.invariant-loop-factor
invariant-loop-factor l =
    reactions_of l.reactions.items ++ reactions_of_singles l.made (drop l.factor-index l.terms) ≡ reactions_of l.initial.reactions.items ++ reactions_of_singles l.made l.terms
