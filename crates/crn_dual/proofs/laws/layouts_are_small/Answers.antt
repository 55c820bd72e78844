use Rattle.crn_dual.proofs.Sizes.{few_species}
use Rattle.crn_dual.proofs.laws.layouts_are_small.Goals as goal

pub returns : goal.returns
returns c = few_species
