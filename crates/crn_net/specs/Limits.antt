-- The sizes that a network may have.
use Rattle.std.specs.Prelude.{◌≤◌, length}
use Rattle.crn_net.specs.Network.{Network, IsNetwork}

pub record IsWithinLimits (net : Network) : Type 0 where
  pub some_species : 1 ≤ net.species
  pub few_species : net.species ≤ 65536
  pub few_reactions : length net.reactions ≤ 65536
  pub some_input : 1 ≤ length net.inputs
  pub few_inputs : length net.inputs ≤ 8

-- what is known of each network that was made
pub record IsValid (net : Network) : Type 0 where
  pub network : IsNetwork net
  pub limits : IsWithinLimits net
