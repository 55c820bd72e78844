use Rattle.crn_gates.proofs.MinimumComputes.{same_species, same_reactions, minimum_computes}
use Rattle.crn_gates.proofs.laws.minimum_computes.Goals as goal

pub returns-clause-species : goal.returns-clause-species
returns-clause-species c = same_species

pub returns-clause-reactions : goal.returns-clause-reactions
returns-clause-reactions c = same_reactions

pub returns-clause-computes : goal.returns-clause-computes
returns-clause-computes c = minimum_computes
