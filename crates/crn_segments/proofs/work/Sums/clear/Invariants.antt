use Rattle.std.proofs.Common.{length, vec_len}
use Rattle.crn_segments.proofs.Clearing.{Clearing}
use Rattle.crn_segments.proofs.work.Sums.clear.Given as goal

abbrev pub decreases-loop-species : goal.decreases-loop-species
decreases-loop-species l = vec_len l.self.touched

abbrev pub invariant-loop-species : goal.invariant-loop-species
invariant-loop-species l = Clearing (length l.fn.self.marks.items) l.self
