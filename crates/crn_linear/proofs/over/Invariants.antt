use Rattle.std.proofs.Common.{◌≡◌, ◌-◌, ◌++◌, take}
use Rattle.std.specs.Prelude.{replicate, pos}
use Rattle.crn_linear.specs.Cleared.{over}
use Rattle.crn_linear.proofs.over.Given as goal

abbrev pub invariant-loop-i : goal.invariant-loop-i
invariant-loop-i l = l.parts ≡ take l.i (over l.divisor l.numbers) ++ replicate (9 - l.i) (pos 0)
