-- The network of the minimum of two variables stably computes the lesser, by the value laws of its gates.
use Rattle.std.proofs.Common.{◌≡◌, ◌≢◌, ℕ, suc, ◌+◌, ◌<◌, ◌≤◌, List, [], ◌∷◌, ◌++◌, length, get_or, refl, ◌∙◌, ap₂, arith}
use Rattle.crn_fraction.proofs.Products.{/ℚ-one}
use Rattle.crn_fraction.proofs.Ring.{+ℚ-zero, one-*ℚ}
use Rattle.crn_fraction.specs.Rational.{ℚ, 0ℚ, ◌+ℚ◌, ◌-ℚ◌, min_ℚ}
use Rattle.crn_gates.proofs.BuildingLaws.{leaf_stamps, min_stamps}
use Rattle.crn_gates.proofs.Chain.{goes_to_end, goes_before}
use Rattle.crn_gates.proofs.FanLaws.{fanned_sound, copies_free}
use Rattle.crn_gates.proofs.InRun.{table_gives, min_in_run, leaf_in_run}
use Rattle.crn_gates.proofs.Settled.{start_empty, rail_in_run, copy_in_run, computes_made_value}
use Rattle.crn_gates.proofs.Tables.{min_is, leaf_is}
use Rattle.crn_gates.specs.Building.{IsFree, AllFree, Stamps, IsDone, IsFanned, IsEmptyAfter}
use Rattle.crn_gates.specs.Gates.{Up, times, leaf_table, min_table, renamed, slot_species}
use Rattle.crn_gates.specs.Lesser.{lesser}
use Rattle.crn_gates.specs.MinimumLayout.{once, copied, with_first, with_both, with_minimum}
use Rattle.crn_net.proofs.Completion.{completion_runs, completion_exhausts}
use Rattle.crn_net.proofs.FeedForward.{not_taken, untaken}
use Rattle.crn_net.proofs.MinimumRun.{minimum_is_network, minimum_feeds_forward}
use Rattle.crn_net.proofs.Start.{amount-start, start_not_negative}
use Rattle.crn_net.specs.Minimum.{minimum}
use Rattle.crn_net.specs.Network.{Reaction, amount, given_to, input_species, start, completion, completed, encoded, AreAmounts, AreNotNegative, IsNotNegative, Run, StablyComputes}
use Rattle.crn_net.specs.declared.Flow.{Flow}
use Rattle.crn_net.specs.Reactions.{EachGiven}
use Rattle.crn_net.specs.Totals.{made_in, AreUntaken, IsExhausted}

-- ---- the network is its gates, one after another

-- its species are those of the gates
pub same_species : with_minimum.species ≡ minimum.species
same_species = refl

-- and so are its reactions
pub same_reactions : with_minimum.reactions ≡ minimum.reactions
same_reactions = refl

-- each copy of an input is free
free_copy : (i : ℕ) → i < 4 → IsFree copied (suc (4 + i))
free_copy i l = copies_free 4 (1 ∷ 2 ∷ 3 ∷ 4 ∷ []) i l

-- the copies of the first variable
first_free : AllFree copied (5 ∷ 6 ∷ [])
first_free = (free_copy 0 (omega arith), (omega arith, tt), (free_copy 1 (omega arith), tt, tt))

-- the leaf of the first variable
first_stamps : Stamps copied (5 ∷ 6 ∷ []) 2 2 3 (leaf_table once)
first_stamps = leaf_stamps copied (5 ∷ 6 ∷ []) once ((omega arith, omega arith), tt) refl (fanned_sound 4 (1 ∷ 2 ∷ 3 ∷ 4 ∷ [])) first_free

-- the copies of the second variable, after that leaf
second_free : AllFree with_first (7 ∷ 8 ∷ [])
second_free = (
  first_stamps.others 7 (free_copy 2 (omega arith)) (omega arith, (omega arith, tt)),
  (omega arith, tt),
  (first_stamps.others 8 (free_copy 3 (omega arith)) (omega arith, (omega arith, tt)), tt, tt),
)

-- the leaf of the second variable
second_stamps : Stamps with_first (7 ∷ 8 ∷ []) 2 2 3 (leaf_table once)
second_stamps = leaf_stamps with_first (7 ∷ 8 ∷ []) once ((omega arith, omega arith), tt) refl first_stamps.sound second_free

-- the pairs of both variables
both_free : AllFree with_both (9 ∷ 10 ∷ 11 ∷ 12 ∷ [])
both_free = (
  second_stamps.others 9 first_stamps.plus (omega arith, (omega arith, tt)),
  (omega arith, (omega arith, (omega arith, tt))),
  (
    second_stamps.others 10 first_stamps.minus (omega arith, (omega arith, tt)),
    (omega arith, (omega arith, tt)),
    (second_stamps.plus, (omega arith, tt), (second_stamps.minus, tt, tt)),
  ),
)

-- the gate of the minimum
minimum_stamps : Stamps with_both (9 ∷ 10 ∷ 11 ∷ 12 ∷ []) 4 6 7 min_table
minimum_stamps = min_stamps with_both 9 10 11 12 second_stamps.sound both_free

-- no reaction takes the output
output_untaken : AreUntaken minimum minimum.output
output_untaken = (
  untaken minimum 15 (not_taken minimum.reactions 15 minimum_stamps.plus.untaken),
  untaken minimum 16 (not_taken minimum.reactions 16 minimum_stamps.minus.untaken),
)

-- what stands after each part
abbrev after_second : List Reaction
after_second = renamed (slot_species (9 ∷ 10 ∷ 11 ∷ 12 ∷ []) 12) min_table ++ []

-- after the leaf of the first variable
abbrev after_first : List Reaction
after_first = renamed (slot_species (7 ∷ 8 ∷ []) 10) (leaf_table once) ++ after_second

-- after the fan-out
abbrev after_copies : List Reaction
after_copies = renamed (slot_species (5 ∷ 6 ∷ []) 8) (leaf_table once) ++ after_first

-- the tables give new slots alone
min_gives : EachGiven (λ i. 4 ≤ i) min_table
min_gives = table_gives 4 4 6 7 min_table min_is

-- so does that of a leaf
once_gives : EachGiven (λ i. 2 ≤ i) (leaf_table once)
once_gives = table_gives 2 2 2 3 (leaf_table once) (leaf_is once 2 refl)

-- a leaf of one variable with the coefficient 1 has its value
once_value : (x : ℚ) → times (Up 1 1) x +ℚ 0ℚ ≡ x
once_value x = +ℚ-zero _ ∙ one-*ℚ _ ∙ /ℚ-one x

-- ---- a run to a state at which each reaction lacks a reactant

module _ (a : List ℚ) (us : List (List Flow)) (c : List ℚ) (nn : IsNotNegative a) (empty : IsEmptyAfter 4 a) (run : Run minimum a us c) (lack : IsExhausted minimum c) where
  -- the gate of the minimum has done its work
  minimum_done : IsDone minimum with_both (9 ∷ 10 ∷ 11 ∷ 12 ∷ []) 4 min_table [] a us c
  minimum_done = record {
    goes_on = goes_to_end minimum minimum_is_network minimum_feeds_forward with_minimum refl (omega arith) a us c nn run lack;
    sound = second_stamps.sound;
    free = both_free;
    empty = λ s l. empty s (omega arith);
  }

  -- and so has the leaf of the second variable
  second_done : IsDone minimum with_first (7 ∷ 8 ∷ []) 2 (leaf_table once) after_second a us c
  second_done = record {
    goes_on = goes_before minimum with_both (9 ∷ 10 ∷ 11 ∷ 12 ∷ []) 4 min_table [] min_gives a us c minimum_done.goes_on;
    sound = first_stamps.sound;
    free = second_free;
    empty = λ s l. empty s (omega arith);
  }

  -- the leaf of the first
  first_done : IsDone minimum copied (5 ∷ 6 ∷ []) 2 (leaf_table once) after_first a us c
  first_done = record {
    goes_on = goes_before minimum with_first (7 ∷ 8 ∷ []) 2 (leaf_table once) after_second once_gives a us c second_done.goes_on;
    sound = fanned_sound 4 (1 ∷ 2 ∷ 3 ∷ 4 ∷ []);
    free = first_free;
    empty = λ s l. empty s (omega arith);
  }

  -- and the fan-out
  copies_done : IsFanned minimum 4 (1 ∷ 2 ∷ 3 ∷ 4 ∷ []) after_copies a us c
  copies_done = record { goes_on = goes_before minimum copied (5 ∷ 6 ∷ []) 2 (leaf_table once) after_first once_gives a us c first_done.goes_on; empty = empty }

  -- what was made of copy i is what was there of input i
  copy_is : (i : ℕ) → i < 4 → 1 ≤ get_or (1 ∷ 2 ∷ 3 ∷ 4 ∷ []) i 0 → get_or (1 ∷ 2 ∷ 3 ∷ 4 ∷ []) i 0 ≤ 4 →
      made_in minimum us c (suc (4 + i)) ≡ amount a (get_or (1 ∷ 2 ∷ 3 ∷ 4 ∷ []) i 0)
  copy_is i l low high =
      copy_in_run minimum 4 (1 ∷ 2 ∷ 3 ∷ 4 ∷ []) after_copies a us c copies_done i l low high
      ∙ rail_in_run minimum 4 (1 ∷ 2 ∷ 3 ∷ 4 ∷ []) after_copies a us c copies_done (get_or (1 ∷ 2 ∷ 3 ∷ 4 ∷ []) i 0) low high

  -- the value made of the first pair is that of the first input
  first_is : made_in minimum us c 9 -ℚ made_in minimum us c 10 ≡ amount a 1 -ℚ amount a 2
  first_is =
      leaf_in_run once minimum copied (5 ∷ 6 ∷ []) after_first a us c refl first_done
      ∙ once_value _
      ∙ ap₂ (λ u v. u -ℚ v) (copy_is 0 (omega arith) (omega arith) (omega arith)) (copy_is 1 (omega arith) (omega arith) (omega arith))

  -- and that of the second pair of the second input
  second_is : made_in minimum us c 11 -ℚ made_in minimum us c 12 ≡ amount a 3 -ℚ amount a 4
  second_is =
      leaf_in_run once minimum with_first (7 ∷ 8 ∷ []) after_second a us c refl second_done
      ∙ once_value _
      ∙ ap₂ (λ u v. u -ℚ v) (copy_is 2 (omega arith) (omega arith) (omega arith)) (copy_is 3 (omega arith) (omega arith) (omega arith))

  -- the value made of the output is the lesser of the inputs
  pub made_minimum : made_in minimum us c 15 -ℚ made_in minimum us c 16 ≡ min_ℚ (amount a 1 -ℚ amount a 2) (amount a 3 -ℚ amount a 4)
  made_minimum = min_in_run minimum with_both 9 10 11 12 [] a us c minimum_done ∙ ap₂ min_ℚ first_is second_is

-- ---- from every start

module _ (x x' y y' : ℚ) (nn : AreNotNegative (x ∷ x' ∷ y ∷ y' ∷ [])) where
  -- a start has what it is given on the inputs
  input_is : (s : ℕ) → 1 ≤ s → s ≤ 4 → amount (start minimum (x ∷ x' ∷ y ∷ y' ∷ [])) s ≡ given_to (input_species minimum.inputs) (x ∷ x' ∷ y ∷ y' ∷ []) s
  input_is s low high = amount-start minimum (x ∷ x' ∷ y ∷ y' ∷ []) s low (omega arith)

  -- and nothing else
  empty : IsEmptyAfter 4 (start minimum (x ∷ x' ∷ y ∷ y' ∷ []))
  empty s l = start_empty minimum (x ∷ x' ∷ y ∷ y' ∷ []) s (omega arith, (omega arith, (omega arith, (omega arith, tt)))) refl (omega arith)

  -- of four amounts the network stably computes the lesser difference
  of_four : StablyComputes minimum (x ∷ x' ∷ y ∷ y' ∷ []) (min_ℚ (x -ℚ x') (y -ℚ y'))
  of_four =
      let a : List ℚ = start minimum (x ∷ x' ∷ y ∷ y' ∷ []) in
      let start_nn : IsNotNegative a = start_not_negative minimum (x ∷ x' ∷ y ∷ y' ∷ []) nn in
      let difference_1 : amount a 1 -ℚ amount a 2 ≡ x -ℚ x' = ap₂ (λ u v. u -ℚ v) (input_is 1 (omega arith) (omega arith)) (input_is 2 (omega arith) (omega arith)) in
      let difference_2 : amount a 3 -ℚ amount a 4 ≡ y -ℚ y' = ap₂ (λ u v. u -ℚ v) (input_is 3 (omega arith) (omega arith)) (input_is 4 (omega arith) (omega arith)) in
      computes_made_value minimum minimum_is_network minimum_feeds_forward output_untaken (x ∷ x' ∷ y ∷ y' ∷ []) nn (min_ℚ (x -ℚ x') (y -ℚ y'))
      (made_minimum a (completion minimum a) (completed minimum a) start_nn empty
      (completion_runs minimum minimum_is_network.reactions minimum_feeds_forward a start_nn)
      (completion_exhausts minimum minimum_is_network.reactions minimum_feeds_forward a start_nn)
      ∙ ap₂ min_ℚ difference_1 difference_2)

-- a list of another length than 4
short : (n : ℕ) → n ≡ 4 → n ≢ 4 → ⊥
short n e h = h e

-- of every list of amounts for the inputs
pub minimum_computes : (xs : List ℚ) → AreAmounts minimum xs → StablyComputes minimum xs (lesser (encoded minimum.rails xs))
minimum_computes [] h = absurd (short 0 h.long (omega arith))
minimum_computes (x ∷ []) h = absurd (short 1 h.long (omega arith))
minimum_computes (x ∷ x' ∷ []) h = absurd (short 2 h.long (omega arith))
minimum_computes (x ∷ x' ∷ y ∷ []) h = absurd (short 3 h.long (omega arith))
minimum_computes (x ∷ x' ∷ y ∷ y' ∷ []) h = of_four x x' y y' h.not_negative
minimum_computes (x ∷ x' ∷ y ∷ y' ∷ z ∷ zs) h = absurd (short (suc (suc (suc (suc (suc (length zs)))))) h.long (omega arith))
