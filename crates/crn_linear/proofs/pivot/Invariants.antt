use Rattle.std.proofs.Common.{◌≡◌, drop}
use Rattle.crn_linear.specs.Forms.{minus}
use Rattle.crn_linear.specs.Cleared.{pivot}
use Rattle.crn_linear.proofs.pivot.Given as goal

abbrev pub invariant-loop-i : goal.invariant-loop-i
invariant-loop-i l = pivot (drop l.i (minus l.a l.b)) ≡ pivot (minus l.a l.b)
