use Rattle.crn_fraction.proofs.Equal.{Decides-eq_fractions}
use Rattle.crn_fraction.proofs.laws.equality.Goals as goal

pub returns : goal.returns
returns c = Decides-eq_fractions
