use Rattle.std.proofs.Common.{◌≡◌, take}
use Rattle.crn_linear.specs.Forms.{at}
use Rattle.crn_linear.proofs.Values.{AreInReach}
use Rattle.crn_linear.proofs.Form.at.Given as goal

abbrev pub invariant-loop-i : goal.invariant-loop-i
invariant-loop-i l = record { value : l.sum ≡ at (take l.i l.self) (take l.i l.x); reach : AreInReach l.self l.x l.i }
