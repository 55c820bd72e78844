use Rattle.std.proofs.Common.{rules}
use Rattle.crn_gates.proofs.RailCalls.{one_positive, two_positive, both_rails_free}
use Rattle.crn_network_tests.proofs.gates.the_least_of_two_forms.Goals as goal

pub leaf_one-requires-clause-factors : goal.leaf_one-requires-clause-factors
leaf_one-requires-clause-factors g c = two_positive _ (c.in_ok-two.two, c.expect-first_of_x1.result) (c.in_ok-one.one, c.expect-first_of_x2.result) (search rules) (search rules) (search rules)

pub leaf_one-requires-2-clause-factors : goal.leaf_one-requires-2-clause-factors
leaf_one-requires-2-clause-factors g c = one_positive _ (c.in_ok-three.three, c.expect-second_of_x2.result) (search rules) (search rules)

pub min_one-requires : goal.min_one-requires
min_one-requires g c = both_rails_free _ _ _ _ _ _ _ c.in_ok-builder-3.ensures.rails c.in_ok-builder-4.ensures.rails (search rules)
