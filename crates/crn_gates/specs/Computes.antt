-- That a network computes a function of numbers.
use Rattle.std.specs.Prelude.{List}
use Rattle.crn_fraction.specs.Rational.{ℚ}
use Rattle.crn_net.specs.Network.{Network, AreAmounts, StablyComputes, encoded}

-- from every start, the network stably computes f of the numbers that the start encodes
abbrev pub Computes : Network → (List ℚ → ℚ) → Type 0
Computes net f = (xs : List ℚ) → AreAmounts net xs → StablyComputes net xs (f (encoded net.rails xs))
