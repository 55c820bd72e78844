use Rattle.std.proofs.Common.{rules}
use Rattle.crn_gates.proofs.GateCalls.{both_free, one_factor}
use Rattle.crn_network_tests.proofs.gates.the_maximum_with_a_constant.Goals as goal

pub leaf-requires-clause-factors : goal.leaf-requires-clause-factors
leaf-requires-clause-factors g c = one_factor _ (c.in_ok-one.one, c.expect-variable.result) (search rules) (search rules)

pub leaf-requires-2-clause-factors : goal.leaf-requires-2-clause-factors
leaf-requires-2-clause-factors g c = one_factor _ (c.in_ok-three.three, c.expect-constant.result) (search rules) (search rules)

pub max-requires : goal.max-requires
max-requires g c = both_free _ _ _ _ _ _ _ c.in_ok-builder-3.ensures.rails c.in_ok-builder-4.ensures.rails (search rules)
