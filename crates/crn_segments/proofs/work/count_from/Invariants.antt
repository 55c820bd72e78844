use Rattle.std.proofs.Common.{◌-◌, length}
use Rattle.crn_segments.proofs.Counts.{Passed}
use Rattle.crn_segments.proofs.work.count_from.Given as goal

abbrev pub invariant-loop-part : goal.invariant-loop-part
invariant-loop-part l = Passed l.parts l.fn.from l.from l.species

abbrev pub decreases-loop-part : goal.decreases-loop-part
decreases-loop-part l = length l.parts - l.from
