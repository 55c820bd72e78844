use Rattle.crn_feasible.proofs.values.+coordinates.Given as goal

abbrev pub decreases-coordinates : goal.decreases-coordinates
decreases-coordinates l = l.v
