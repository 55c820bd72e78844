use Rattle.std.proofs.Common.{◌≡◌, ◌≤◌, ◌^◌, take}
use Rattle.crn_linear.specs.Cleared.{common}
use Rattle.crn_farkas.specs.Mixtures.{mixed}
use Rattle.crn_feasible.proofs.numbers.common_of.Given as goal

abbrev pub invariant-loop-i : goal.invariant-loop-i
invariant-loop-i l = record { value : l.common ≡ common (take l.i (mixed l.fn.a l.p l.fn.b l.n)); small : l.common ≤ 2 ^ 119 }
