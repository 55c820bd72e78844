use Rattle.std.proofs.Common.{◌≡◌, ◌≤◌, ◌^◌, take}
use Rattle.crn_linear.specs.Cleared.{common_den}
use Rattle.crn_feasible.proofs.values.common_den.Given as goal

abbrev pub invariant-loop-value : goal.invariant-loop-value
invariant-loop-value l = record { value : l.common ≡ common_den (take l.value-index l.values); small : l.common ≤ 2 ^ 59 }
