use Rattle.crn_segments.proofs.Least.{LeastSoFar}
use Rattle.crn_segments.proofs.work.Sums.least_refused.Given as goal

abbrev pub invariant-loop-species : goal.invariant-loop-species
invariant-loop-species l = LeastSoFar l.fn.count l.self l.species-index l.least
