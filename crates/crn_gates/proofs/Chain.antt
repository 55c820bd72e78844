-- Gates one after another: a run that leaves the reactions of all without a reactant does so with those of the earlier ones.
use Rattle.std.proofs.Common.{◌≡◌, ℕ, ◌+◌, ◌≤◌, List, [], ◌++◌, length, sym, refl, ◌∙◌, ap, ap₂, arith, length-append, append_assoc, append-nil}
use Rattle.crn_fraction.specs.Rational.{ℚ}
use Rattle.crn_gates.proofs.GateLaws.{given_all-append}
use Rattle.crn_gates.proofs.Stamping.{given_new}
use Rattle.crn_gates.specs.Building.{GoesOn}
use Rattle.crn_gates.specs.Calls.{IsMade}
use Rattle.crn_gates.specs.Gates.{Built, stamped, slot_species, renamed}
use Rattle.crn_net.specs.Network.{Network, Reaction, IsNetwork, IsFeedForward, IsNotNegative, Run}
use Rattle.crn_net.specs.declared.Flow.{Flow}
use Rattle.crn_net.specs.Reactions.{EachGiven}
use Rattle.crn_net.specs.Totals.{IsExhausted}

-- a run to where each reaction lacks a reactant
pub goes_to_end : (net : Network) → IsNetwork net → IsFeedForward net → (b : Built) → net.reactions ≡ b.reactions → b.species ≤ net.species →
    (a : List ℚ) (us : List (List Flow)) (c : List ℚ) → IsNotNegative a → Run net a us c → IsExhausted net c → GoesOn net b [] a us c
goes_to_end net ok ff b same room a us c nn run lack = record {
  network = ok.reactions;
  feed_forward = ff;
  reactions = same ∙ sym (append-nil b.reactions);
  species = room;
  later_gives = λ s l. refl;
  not_negative = nn;
  run = run;
  lack = λ q low high. lack q low (omega (arith, high, ap length same));
}

-- what goes on from a stamped table goes on from what was there before
pub goes_before : (net : Network) (b : Built) (xs : List ℕ) (new : ℕ) (t later : List Reaction) → EachGiven (λ i. length xs ≤ i) t →
    (a : List ℚ) (us : List (List Flow)) (c : List ℚ) → GoesOn net (stamped xs new t b) later a us c → GoesOn net b (renamed (slot_species xs b.species) t ++ later) a us c
goes_before net b xs new t later gives a us c after =
    let here : List Reaction = renamed (slot_species xs b.species) t in
    record {
      network = after.network;
      feed_forward = after.feed_forward;
      reactions = after.reactions ∙ append_assoc b.reactions here later;
      species = omega (arith, after.species);
      later_gives = λ s l. given_all-append here later s ∙ ap₂ (λ x y. x + y) (given_new xs b.species s l t gives) (after.later_gives s (omega arith));
      not_negative = after.not_negative;
      run = after.run;
      lack = λ q low high. after.lack q low (omega (arith, high, length-append b.reactions here));
    }

-- what was made before a table is stamped stays
pub made_before : (n : ℕ) (b : Built) (xs : List ℕ) (new : ℕ) (t : List Reaction) (Claim : List ℚ → (ℕ → ℚ) → Type 0) → EachGiven (λ i. length xs ≤ i) t → IsMade n b Claim → IsMade n (stamped xs new t b) Claim
made_before n b xs new t Claim gives made net later a us c goes empty = made net _ a us c (goes_before net b xs new t later gives a us c goes) empty

-- also where less was there at the beginning
pub made_from : (k n : ℕ) (b : Built) (Claim : List ℚ → (ℕ → ℚ) → Type 0) → k ≤ n → IsMade n b Claim → IsMade k b Claim
made_from k n b Claim l made net later a us c goes empty = made net later a us c goes (λ s h. empty s (omega arith))
