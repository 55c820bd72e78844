-- What a builder keeps, which rails are free, and the state of a run at which a gate has done its work.
use Rattle.std.specs.Prelude.{◌≡◌, ◌≢◌, ℕ, ◌<◌, ◌≤◌, List, [], ◌∷◌, ◌++◌, length}
use Rattle.crn_fraction.specs.Rational.{ℚ, 0ℚ}
use Rattle.crn_net.specs.Network.{Network, Reaction, AreReactions, IsFeedForward, IsNotNegative, IsApart, Run, amount}
use Rattle.crn_net.specs.declared.Flow.{Flow}
use Rattle.crn_net.specs.Totals.{FirstLack}
use Rattle.crn_net.specs.Reactions.{EachTaken, EachGiven, EachReaction, FeedsForward, given_all}
use Rattle.crn_gates.specs.FanOut.{fanned}
use Rattle.crn_gates.specs.Gates.{Built, stamped, slot_species}

-- a network that feeds forward, over its own species
pub record IsSound (b : Built) : Type 0 where
  pub feeds : FeedsForward b.reactions
  pub takes : EachTaken (λ s. s ≤ b.species) b.reactions
  pub gives : EachGiven (λ s. s ≤ b.species) b.reactions
  pub each : EachReaction b.species b.reactions

-- the species exists, and no reaction takes it
pub record IsFree (b : Built) (s : ℕ) : Type 0 where
  pub low : 1 ≤ s
  pub high : s ≤ b.species
  pub untaken : EachTaken (λ i. i ≢ s) b.reactions

-- free rails, all different
abbrev pub AllFree : Built → List ℕ → Type 0
AllFree b [] = Unit {0}
AllFree b (x ∷ xs) = IsFree b x × IsApart x xs × AllFree b xs

-- stamping a table keeps a network sound, makes a free pair at the slots p and q, and leaves the other free rails free
pub record Stamps (b : Built) (xs : List ℕ) (new p q : ℕ) (t : List Reaction) : Type 0 where
  pub sound : IsSound (stamped xs new t b)
  pub plus : IsFree (stamped xs new t b) (slot_species xs b.species p)
  pub minus : IsFree (stamped xs new t b) (slot_species xs b.species q)
  pub apart : slot_species xs b.species p ≢ slot_species xs b.species q
  pub others : (s : ℕ) → IsFree b s → IsApart s xs → IsFree (stamped xs new t b) s

-- the same for a table that makes one rail, at the slot p
pub record StampsOne (b : Built) (xs : List ℕ) (new p : ℕ) (t : List Reaction) : Type 0 where
  pub sound : IsSound (stamped xs new t b)
  pub rail : IsFree (stamped xs new t b) (slot_species xs b.species p)
  pub others : (s : ℕ) → IsFree b s → IsApart s xs → IsFree (stamped xs new t b) s

-- the network goes on from b, and a run leads from a to c, at which each reaction of b lacks a reactant
pub record GoesOn (net : Network) (b : Built) (later : List Reaction) (a : List ℚ) (us : List (List Flow)) (c : List ℚ) : Type 0 where
  pub network : AreReactions net
  pub feed_forward : IsFeedForward net
  pub reactions : net.reactions ≡ b.reactions ++ later
  pub species : b.species ≤ net.species
  pub later_gives : (s : ℕ) → s ≤ b.species → given_all later s ≡ 0
  pub not_negative : IsNotNegative a
  pub run : Run net a us c
  pub lack : FirstLack net (length b.reactions) c

-- nothing was there of the species after n
abbrev pub IsEmptyAfter : ℕ → List ℚ → Type 0
IsEmptyAfter n a = (s : ℕ) → n < s → amount a s ≡ 0ℚ

-- a table stamped on free rails has done its work: the run began with nothing of its new species, and led to where its reactions, and those before it,
-- each lack a reactant
pub record IsDone (net : Network) (b : Built) (xs : List ℕ) (new : ℕ) (t later : List Reaction) (a : List ℚ) (us : List (List Flow)) (c : List ℚ) : Type 0 where
  pub goes_on : GoesOn net (stamped xs new t b) later a us c
  pub sound : IsSound b
  pub free : AllFree b xs
  pub empty : IsEmptyAfter b.species a

-- so has a fan-out
pub record IsFanned (net : Network) (n : ℕ) (rs : List ℕ) (later : List Reaction) (a : List ℚ) (us : List (List Flow)) (c : List ℚ) : Type 0 where
  pub goes_on : GoesOn net (fanned n rs) later a us c
  pub empty : IsEmptyAfter n a
