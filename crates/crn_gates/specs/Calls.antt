-- What a call of a builder does with rails, and what is made wherever its reactions have done their work.
use Rattle.std.specs.Prelude.{ℕ, ◌<◌, List, [], ◌∷◌}
use Rattle.crn_fraction.specs.Rational.{ℚ}
use Rattle.crn_net.specs.Network.{Network, Reaction, IsApart}
use Rattle.crn_net.specs.declared.Flow.{Flow}
use Rattle.crn_net.specs.Totals.{made_in}
use Rattle.crn_gates.specs.Gates.{Built}
use Rattle.crn_gates.specs.Building.{IsFree, AllFree, GoesOn, IsEmptyAfter}

-- each of the species is above n
abbrev pub AreAbove : ℕ → List ℕ → Type 0
AreAbove n [] = Unit {0}
AreAbove n (x ∷ xs) = (n < x) × AreAbove n xs

-- the rails xs are moved into gates that make the rails ys: these are new, free and all different, and each other free rail stays free
pub record Moves (old new : Built) (xs ys : List ℕ) : Type 0 where
  pub made : AllFree new ys
  pub fresh : AreAbove old.species ys
  pub others : (s : ℕ) → IsFree old s → IsApart s xs → IsFree new s

-- the claim holds of what is made: of the amounts a at the beginning and the amounts made by the end of each run in a network that goes on from b, where the
-- run begins with nothing of the species after n, and at its end each reaction of b lacks a reactant
abbrev pub IsMade : ℕ → Built → (List ℚ → (ℕ → ℚ) → Type 0) → Type 0
IsMade n b Claim =
    (net : Network) (later : List Reaction) (a : List ℚ) (us : List (List Flow)) (c : List ℚ) → GoesOn net b later a us c → IsEmptyAfter n a → Claim a (made_in net us c)
