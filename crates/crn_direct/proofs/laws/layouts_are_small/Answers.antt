use Rattle.crn_direct.proofs.Sizes.{few_species}
use Rattle.crn_direct.proofs.laws.layouts_are_small.Goals as goal

pub returns : goal.returns
returns c = few_species
