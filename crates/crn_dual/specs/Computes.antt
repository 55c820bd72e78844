-- That a network computes a formula.
use Rattle.std.specs.Prelude.{ℕ}
use Rattle.crn_net.specs.Network.{Network}
use Rattle.crn_gates.specs.Computes as network
use Rattle.crn_formula.specs.Formulas.{Formula}
use Rattle.crn_dual.specs.Columns.{value_over}

-- from every start, the value of a formula over k variables at the point that the start encodes
abbrev pub Computes : Network → ℕ → Formula → Type 0
Computes net k e = network.Computes net (value_over k e)
