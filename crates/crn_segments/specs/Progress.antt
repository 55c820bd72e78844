-- What a replay shows: its network, and the state that was reached.
use Rattle.std.specs.Prelude.{List}
use Rattle.crn_fraction.specs.Rational.{ℚ}
use Rattle.crn_net.specs.Limits.{IsWithinLimits}
use Rattle.crn_net.specs.Network.{Network, IsNetwork, IsState}
use Rattle.crn_segments.specs.Sums.{IsReady}
use Rattle.crn_segments.specs.declared.work.Sums.{Sums}

pub record Progress : Type 0 where
  pub network : Network
  pub state : List ℚ

-- a replay that was reached: the network is valid, its state is one of it, and there is room for a step
pub record IsReached (net : Network) (c : List ℚ) (sums : Sums) : Type 0 where
  pub valid : IsNetwork net
  pub limits : IsWithinLimits net
  pub state : IsState net c
  pub ready : IsReady net.species sums
