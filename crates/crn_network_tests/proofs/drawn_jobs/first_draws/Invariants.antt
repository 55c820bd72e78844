use Rattle.std.proofs.Common.{◌<◌}
use Rattle.crn_network_tests.proofs.drawn_jobs.first_draws.Given as goal

abbrev pub invariant-loop-wanted : goal.invariant-loop-wanted
invariant-loop-wanted g l = l.z < 65537
