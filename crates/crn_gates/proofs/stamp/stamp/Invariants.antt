use Rattle.std.proofs.Common.{◌≡◌, ◌++◌, take}
use Rattle.crn_net.specs.Views.{natural, reactions_of}
use Rattle.crn_gates.specs.Stamps.{reactions_at}
use Rattle.crn_gates.proofs.stamp.stamp.Given as goal

abbrev pub invariant-loop-row : goal.invariant-loop-row
invariant-loop-row g l =
    reactions_of l.reactions.items
    ≡ reactions_of l.initial.reactions.items ++ reactions_at (natural l.ratio.numerator) (natural l.ratio.denominator) l.slots (take l.row-index l.row-items)
