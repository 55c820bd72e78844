use Rattle.std.proofs.Common.{vec_len}
use Rattle.crn_segments.proofs.Clearing.{Settling}
use Rattle.crn_segments.proofs.work.Sums.settle.Given as goal

abbrev pub decreases-loop-species : goal.decreases-loop-species
decreases-loop-species l = vec_len l.self.touched

abbrev pub invariant-loop-species : goal.invariant-loop-species
invariant-loop-species l = Settling l.fn.self l.fn.state l.self l.state
