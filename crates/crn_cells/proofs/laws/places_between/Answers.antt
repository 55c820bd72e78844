use Rattle.crn_cells.proofs.Between.{between}
use Rattle.crn_cells.proofs.laws.places_between.Goals as goal

pub returns : goal.returns
returns c = between
