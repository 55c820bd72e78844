use Rattle.crn_network_tests.proofs.formula_networks.+sum_of.Given as goal

abbrev pub decreases-sum_of : goal.decreases-sum_of
decreases-sum_of l = l.leaves
