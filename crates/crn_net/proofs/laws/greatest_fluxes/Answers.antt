use Rattle.crn_net.proofs.Settling.{greatest_flux_is}
use Rattle.crn_net.proofs.laws.greatest_fluxes.Goals as goal

pub returns : goal.returns
returns c = greatest_flux_is
