use Rattle.crn_compile.proofs.DirectNetworks.{one_direct_network}
use Rattle.crn_compile.proofs.laws.one_direct_network.Goals as goal

pub returns : goal.returns
returns c = one_direct_network
