use Rattle.std.proofs.Common.{◌≡◌, ◌≤◌, ◌^◌, take}
use Rattle.crn_linear.specs.Cleared.{common_den}
use Rattle.crn_linear.proofs.common_den.Given as goal

abbrev pub invariant-loop-i : goal.invariant-loop-i
invariant-loop-i l = record { value : l.common ≡ common_den (take l.i l.units); small : l.common ≤ 2 ^ 59 }
