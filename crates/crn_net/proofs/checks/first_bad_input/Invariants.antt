use Rattle.std.proofs.Common.{ℕ, ◌+◌, ◌<◌}
use Rattle.crn_net.specs.Causes.{AreInputsTo}
use Rattle.crn_net.proofs.checks.first_bad_input.Given as goal

abbrev pub invariant-loop-index : goal.invariant-loop-index
invariant-loop-index l = (j : ℕ) → j < l.index + 1 → AreInputsTo l.rails l.species l.inputs j
