-- The species of an input or of the output.
use Rattle.std.proofs.Common.{ℕ, ◌≤◌, arith}
use Rattle.crn_net.specs.Network.{IsEnds}
use Rattle.crn_net.specs.declared.Rails.{Rails}
use Rattle.crn_net.specs.declared.Rails.TheVariants.{Dual, Direct}
use Rattle.crn_net.specs.declared.Ends.{Ends}
use Rattle.crn_net.specs.declared.Ends.TheVariants.{Pair, One}

-- there are some
pub some_species : (rails : Rails) (n : ℕ) (e : Ends) → IsEnds rails n e → 1 ≤ n
some_species Dual n (Pair a b) is = omega (arith, is.0, is.1)
some_species Dual n (One a) is = absurd is
some_species Direct n (Pair a b) is = absurd is
some_species Direct n (One a) is = omega (arith, is.0, is.1)
