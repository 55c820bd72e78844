-- What a network keeps: that it is valid, and the table of its takers.
use Rattle.std.specs.Prelude.{ℕ, List}
use Rattle.crn_net.specs.Network.{Network}
use Rattle.crn_net.specs.Limits.{IsValid}
use Rattle.crn_net.specs.Takers.{IsTable, takers_of}

pub record IsKept (net : Network) (starts numbers : List ℕ) : Type 0 where
  pub valid : IsValid net
  pub table : IsTable net.species (takers_of net) starts numbers
