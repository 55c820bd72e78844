use Rattle.std.proofs.Common.{arith}
use Rattle.crn_fraction.proofs.Products.{whole_positive}
use Rattle.crn_network_tests.proofs.segments.steps_happen_one_after_another.Goals as goal

pub step_one-requires-clause-positive : goal.step_one-requires-clause-positive
step_one-requires-clause-positive g c = whole_positive 1 (omega arith)
