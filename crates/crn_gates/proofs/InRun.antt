-- Value laws of the gates in every run: at a state where a gate has done its work.
use Rattle.crn_net.specs.Reactions.{EachGiven}
use Rattle.crn_gates.specs.Gates.{AreUpward, leaf_one_table, min_one_table, Built, slot_species, IsTable, Factor, Operand, times, scale_table, leaf_table, width_of, add_table, sub_table, min_table, max_table}
use Rattle.crn_gates.proofs.OneRail.{leaf_one_gives, leaf_one_makes, ones_same, min_one_makes}
use Rattle.std.proofs.Common.{◌≡◌, ℕ, suc, ◌+◌, ◌<◌, ◌≤◌, List, [], ◌∷◌, length, sym, ◌∙◌, ap, ap₂, arith}
use Rattle.crn_fraction.proofs.Ring.{zero-+ℚ, sub_ℚ-self}
use Rattle.crn_fraction.specs.Rational.{ℚ, 0ℚ, ◌+ℚ◌, ◌-ℚ◌, min_ℚ, max_ℚ}
use Rattle.crn_gates.proofs.BuildingLaws.{free_different, free_low, operand_range}
use Rattle.crn_gates.proofs.GateLaws.{transfer_makes}
use Rattle.crn_gates.proofs.Stamping.{stamped_makes, stamped_same, made_by_left, slot_new}
use Rattle.crn_gates.proofs.Tables.{given_above, slot_high, EachGiven-weaken, TableLaw, add_is, sub_is, min_is, max_is, scale_is, leaf_is, add_law, sub_table_law, min_table_law, max_table_law}
use Rattle.crn_gates.proofs.Transfers.{leaf_makes, terms_same}
use Rattle.crn_gates.specs.Building.{IsDone}
use Rattle.crn_gates.specs.Values.{made_value, MakesOfTwo, MakesOfOne, MakesTerms, MakesOnes, MakesOfRails}
use Rattle.crn_net.proofs.InRun.{made_in_run}
use Rattle.crn_net.specs.Network.{Network, Reaction, amount}
use Rattle.crn_net.specs.declared.Flow.{Flow}
use Rattle.crn_net.specs.Totals.{made_in, made_by}

-- a table gives new slots alone
pub table_gives : (k new p q : ℕ) (t : List Reaction) → IsTable k new p q t → EachGiven (λ i. k ≤ i) t
table_gives k new p q t it = EachGiven-weaken (λ i. (k ≤ i) × (i < k + new)) (λ i. k ≤ i) (λ i h. h.0) t it.gives

module _ (net : Network) (b : Built) (xs : List ℕ) (new : ℕ) (t later : List Reaction) (gives : EachGiven (λ i. length xs ≤ i) t) (a : List ℚ) (us : List (List Flow)) (c : List ℚ)
    (done : IsDone net b xs new t later a us c) where
  -- what a run has made of a new slot is what the table makes of the slots
  new_slot : (i : ℕ) → length xs ≤ i → i < length xs + new → made_in net us c (slot_species xs b.species i) ≡ made_by t (λ j. made_by b.reactions (amount a) (slot_species xs b.species j)) i
  new_slot i l h =
      let fresh : b.species < slot_species xs b.species i = slot_new xs b.species i l in
      let inside : slot_species xs b.species i ≤ b.species + new = slot_high xs b.species new i (free_low b xs done.free) h in
      made_in_run net done.goes_on.network done.goes_on.feed_forward _ later done.goes_on.reactions a done.goes_on.not_negative us c done.goes_on.run done.goes_on.lack _ (omega arith) (omega (arith, done.goes_on.species)) (done.goes_on.later_gives _ inside)
      ∙ stamped_makes b xs new t (free_different b xs done.free) (free_low b xs done.free) (amount a) i

  -- new slots held nothing
  nothing : (i : ℕ) → length xs ≤ i → made_by b.reactions (amount a) (slot_species xs b.species i) ≡ 0ℚ
  nothing i l =
      let fresh : b.species < slot_species xs b.species i = slot_new xs b.species i l in
      made_by_left b.reactions (amount a) _ (given_above b.species _ fresh b.reactions done.sound.gives) ∙ done.empty _ fresh

  -- what the reactions before the table make of an operand is what the run has made of it
  operand : (i : ℕ) → i < length xs → made_by b.reactions (amount a) (slot_species xs b.species i) ≡ made_in net us c (slot_species xs b.species i)
  operand i l =
      let r : (1 ≤ slot_species xs b.species i) × (slot_species xs b.species i ≤ b.species) = operand_range b xs i done.free l in
      sym (made_in_run net done.goes_on.network done.goes_on.feed_forward _ later done.goes_on.reactions a done.goes_on.not_negative us c done.goes_on.run done.goes_on.lack _ r.0 (omega (arith, r.1, done.goes_on.species)) (done.goes_on.later_gives _ (omega (arith, r.1)))
      ∙ stamped_same b xs new t gives (amount a) _ r.1)

-- ---- two operands

module _ (net : Network) (b : Built) (x x' y y' : ℕ) (new p q : ℕ) (t later : List Reaction) (it : IsTable 4 new p q t) (op : ℚ → ℚ → ℚ) (law : TableLaw p q t op)
    (a : List ℚ) (us : List (List Flow)) (c : List ℚ) (done : IsDone net b (x ∷ x' ∷ y ∷ y' ∷ []) new t later a us c) where
  -- the value law of a table of two pairs
  pub pair_in_run : made_value net us c (slot_species (x ∷ x' ∷ y ∷ y' ∷ []) b.species p) (slot_species (x ∷ x' ∷ y ∷ y' ∷ []) b.species q) ≡ op (made_value net us c x x') (made_value net us c y y')
  pair_in_run =
      ap₂ (λ u v. u -ℚ v) (new_slot net b (x ∷ x' ∷ y ∷ y' ∷ []) new t later (table_gives 4 new p q t it) a us c done p it.plus.0 it.plus.1) (new_slot net b (x ∷ x' ∷ y ∷ y' ∷ []) new t later (table_gives 4 new p q t it) a us c done q it.minus.0 it.minus.1)
      ∙ law (λ j. made_by b.reactions (amount a) (slot_species (x ∷ x' ∷ y ∷ y' ∷ []) b.species j)) (λ i l. nothing net b (x ∷ x' ∷ y ∷ y' ∷ []) new t later (table_gives 4 new p q t it) a us c done i l)
      ∙ ap₂ op (ap₂ (λ u v. u -ℚ v) (old 0 (omega arith)) (old 1 (omega arith))) (ap₂ (λ u v. u -ℚ v) (old 2 (omega arith)) (old 3 (omega arith)))
    where
      old : (i : ℕ) → i < 4 → made_by b.reactions (amount a) (slot_species (x ∷ x' ∷ y ∷ y' ∷ []) b.species i) ≡ made_in net us c (slot_species (x ∷ x' ∷ y ∷ y' ∷ []) b.species i)
      old i l = operand net b (x ∷ x' ∷ y ∷ y' ∷ []) new t later (table_gives 4 new p q t it) a us c done i l

-- the sum
pub add_in_run : MakesOfTwo 2 add_table 4 5 (λ u v. u +ℚ v)
add_in_run net b x x' y y' later a us c done = pair_in_run net b x x' y y' 2 4 5 add_table later add_is (λ u v. u +ℚ v) add_law a us c done

-- the difference
pub sub_in_run : MakesOfTwo 2 sub_table 4 5 (λ u v. u -ℚ v)
sub_in_run net b x x' y y' later a us c done = pair_in_run net b x x' y y' 2 4 5 sub_table later sub_is (λ u v. u -ℚ v) sub_table_law a us c done

-- the minimum
pub min_in_run : MakesOfTwo 4 min_table 6 7 min_ℚ
min_in_run net b x x' y y' later a us c done = pair_in_run net b x x' y y' 4 6 7 min_table later min_is min_ℚ min_table_law a us c done

-- the maximum
pub max_in_run : MakesOfTwo 4 max_table 6 7 max_ℚ
max_in_run net b x x' y y' later a us c done = pair_in_run net b x x' y y' 4 6 7 max_table later max_is max_ℚ max_table_law a us c done

-- ---- scale and leaf

-- a scaled pair
pub scale_in_run : (f : Factor) → MakesOfOne 2 (scale_table f) 2 3 (times f)
scale_in_run f net b x x' later a us c done =
    ap₂ (λ u v. u -ℚ v) (new_slot net b (x ∷ x' ∷ []) 2 (scale_table f) later (table_gives 2 2 2 3 (scale_table f) (scale_is f)) a us c done 2 (omega arith) (omega arith)) (new_slot net b (x ∷ x' ∷ []) 2 (scale_table f) later (table_gives 2 2 2 3 (scale_table f) (scale_is f)) a us c done 3 (omega arith) (omega arith))
    ∙ transfer_makes f 0 1 2 3 (λ j. made_by b.reactions (amount a) (slot_species (x ∷ x' ∷ []) b.species j)) (omega arith) (omega arith) (omega arith)
    ∙ ap₂ (λ u v. u +ℚ v)
    (ap₂ (λ u v. u -ℚ v) (nothing net b (x ∷ x' ∷ []) 2 (scale_table f) later (table_gives 2 2 2 3 (scale_table f) (scale_is f)) a us c done 2 (omega arith)) (nothing net b (x ∷ x' ∷ []) 2 (scale_table f) later (table_gives 2 2 2 3 (scale_table f) (scale_is f)) a us c done 3 (omega arith)) ∙ sub_ℚ-self _)
    (ap (times f) (ap₂ (λ u v. u -ℚ v) (operand net b (x ∷ x' ∷ []) 2 (scale_table f) later (table_gives 2 2 2 3 (scale_table f) (scale_is f)) a us c done 0 (omega arith)) (operand net b (x ∷ x' ∷ []) 2 (scale_table f) later (table_gives 2 2 2 3 (scale_table f) (scale_is f)) a us c done 1 (omega arith))))
    ∙ zero-+ℚ _

-- a leaf
pub leaf_in_run : (ts : List Operand) → MakesTerms ts
leaf_in_run ts net b xs later a us c e done =
    let w : ℕ = width_of ts in
    let it : IsTable (length xs) 2 (width_of ts) (suc (width_of ts)) (leaf_table ts) = leaf_is ts (length xs) e in
    ap₂ (λ u v. u -ℚ v) (new_slot net b xs 2 (leaf_table ts) later (table_gives (length xs) 2 w (suc w) (leaf_table ts) it) a us c done w it.plus.0 it.plus.1) (new_slot net b xs 2 (leaf_table ts) later (table_gives (length xs) 2 w (suc w) (leaf_table ts) it) a us c done (suc w) it.minus.0 it.minus.1)
    ∙ leaf_makes ts 0 w (λ j. made_by b.reactions (amount a) (slot_species xs b.species j)) (omega arith)
    ∙ ap₂ (λ u v. u +ℚ v)
    (ap₂ (λ u v. u -ℚ v) (nothing net b xs 2 (leaf_table ts) later (table_gives (length xs) 2 w (suc w) (leaf_table ts) it) a us c done w it.plus.0) (nothing net b xs 2 (leaf_table ts) later (table_gives (length xs) 2 w (suc w) (leaf_table ts) it) a us c done (suc w) it.minus.0) ∙ sub_ℚ-self _)
    (terms_same ts 0 (λ j. made_by b.reactions (amount a) (slot_species xs b.species j)) (λ j. made_in net us c (slot_species xs b.species j)) (λ j l. operand net b xs 2 (leaf_table ts) later (table_gives (length xs) 2 w (suc w) (leaf_table ts) it) a us c done j (omega (arith, e))))
    ∙ zero-+ℚ _

-- ---- single rails

-- a leaf of single rails
pub leaf_one_in_run : (fs : List Factor) → AreUpward fs → MakesOnes fs
leaf_one_in_run fs up net b xs later a us c e done =
    let gives : EachGiven (λ i. length xs ≤ i) (leaf_one_table fs) = leaf_one_gives (λ i. length xs ≤ i) fs 0 (length fs) (omega (arith, e)) in
    new_slot net b xs 1 (leaf_one_table fs) later gives a us c done (length fs) (omega (arith, e)) (omega (arith, e))
    ∙ leaf_one_makes fs 0 (length fs) (λ j. made_by b.reactions (amount a) (slot_species xs b.species j)) up (omega arith)
    ∙ ap₂ (λ u v. u +ℚ v) (nothing net b xs 1 (leaf_one_table fs) later gives a us c done (length fs) (omega (arith, e)))
    (ones_same fs 0 (λ j. made_by b.reactions (amount a) (slot_species xs b.species j)) (λ j. made_in net us c (slot_species xs b.species j))
    (λ j l. operand net b xs 1 (leaf_one_table fs) later gives a us c done j (omega (arith, e))))
    ∙ zero-+ℚ _

-- the minimum of two rails
pub min_one_in_run : MakesOfRails 1 min_one_table 2 min_ℚ
min_one_in_run net b x y later a us c done =
    let gives : EachGiven (λ i. 2 ≤ i) min_one_table = ((omega arith, tt), tt) in
    new_slot net b (x ∷ y ∷ []) 1 min_one_table later gives a us c done 2 (omega arith) (omega arith)
    ∙ min_one_makes (λ j. made_by b.reactions (amount a) (slot_species (x ∷ y ∷ []) b.species j)) (nothing net b (x ∷ y ∷ []) 1 min_one_table later gives a us c done 2 (omega arith))
    ∙ ap₂ min_ℚ (operand net b (x ∷ y ∷ []) 1 min_one_table later gives a us c done 0 (omega arith)) (operand net b (x ∷ y ∷ []) 1 min_one_table later gives a us c done 1 (omega arith))
