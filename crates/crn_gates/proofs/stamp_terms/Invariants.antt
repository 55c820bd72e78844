use Rattle.std.proofs.Common.{◌≡◌, ◌++◌, take}
use Rattle.crn_net.specs.Views.{reactions_of}
use Rattle.crn_gates.specs.Pairs.{reactions_of_terms}
use Rattle.crn_gates.proofs.stamp_terms.Given as goal

abbrev pub invariant-loop-factor : goal.invariant-loop-factor
invariant-loop-factor l =
    reactions_of l.reactions.items ≡ reactions_of l.initial.reactions.items ++ reactions_of_terms l.made.0 l.made.1 (take l.factor-index l.terms)
