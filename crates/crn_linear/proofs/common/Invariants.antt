use Rattle.std.proofs.Common.{◌≡◌, ◌≤◌, ◌^◌, take}
use Rattle.crn_linear.specs.Cleared.{common}
use Rattle.crn_linear.proofs.common.Given as goal

abbrev pub invariant-loop-number : goal.invariant-loop-number
invariant-loop-number l = record { value : l.common ≡ common (take l.number-index l.numbers); small : l.common ≤ 2 ^ 59 }
