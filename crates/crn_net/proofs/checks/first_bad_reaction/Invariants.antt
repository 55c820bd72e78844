use Rattle.std.proofs.Common.{ℕ, ◌+◌, ◌<◌, ◌≤◌}
use Rattle.crn_net.specs.Views.{reactions_of}
use Rattle.crn_net.specs.Causes.{IsReactionAt}
use Rattle.crn_net.proofs.checks.first_bad_reaction.Given as goal

abbrev pub invariant-loop-index : goal.invariant-loop-index
invariant-loop-index l = (j : ℕ) → j < l.index + 1 → 1 ≤ j → IsReactionAt l.species (reactions_of l.reactions) j
