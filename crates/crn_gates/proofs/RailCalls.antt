-- What the calls of a builder of single rails promise, from the laws of their tables.
use Rattle.std.specs.List.{All}
use Rattle.std.proofs.lemmas.List.Elements.{All-nil, All-cons}
use Rattle.std.proofs.Common.{◌≡◌, ◌≢◌, ℕ, zero, suc, min, max, map, ◌+◌, ◌-◌, ◌<◌, ◌≤◌, Bool, true, false, List, [], ◌∷◌, ◌++◌, length, get_or, refl, sym, ◌∙◌, ap, ap₂, subst, ◌⊎◌, ⊎_elim, arith, append_assoc}
use Rattle.std.specs.Prelude.{pos, ◌<ℤ◌}
use Rattle.std.proofs.lemmas.Int.{ints}
use Rattle.crn_fraction.proofs.Linear.{min_ℚ_comm}
use Rattle.crn_fraction.specs.Rational.{ℚ, 0ℚ, ◌+ℚ◌, ◌*ℚ◌, ◌<ℚ◌, min_ℚ}
use Rattle.crn_fraction.proofs.Products.{positive_of_num}
use Rattle.crn_net.specs.Network.{Reaction, IsApart, amount}
use Rattle.crn_net.specs.Totals.{made_in}
use Rattle.crn_net.specs.declared.Rails.TheVariants.{Direct}
use Rattle.crn_net.specs.Reactions.{AreAtMost}
use Rattle.crn_gates.proofs.BuildingLaws.{leaf_one_stamps, min_one_stamps}
use Rattle.crn_gates.proofs.Chain.{made_before}
use Rattle.crn_gates.proofs.Factors.{factor_upward, times_factor}
use Rattle.crn_gates.proofs.FanCalls.{fans_spare}
use Rattle.crn_gates.proofs.FanLaws.{copies_free}
use Rattle.crn_gates.proofs.GateCalls.{slot_after, apart_above}
use Rattle.crn_gates.proofs.InRun.{leaf_one_in_run, min_one_in_run}
use Rattle.crn_gates.proofs.OneRail.{leaf_one_gives}
use Rattle.crn_gates.proofs.Settled.{rail_in_run, copy_in_run}
use Rattle.crn_gates.proofs.Stamping.{slot_new}
use Rattle.crn_gates.proofs.Transfers.{renamed-append}
use Rattle.crn_gates.specs.Building.{IsSound, IsFree, AllFree, StampsOne}
use Rattle.crn_gates.specs.Calls.{AreAbove, Moves, IsMade}
use Rattle.crn_gates.specs.Drafts.{Draft, begun, width_before}
use Rattle.crn_gates.specs.FanOut.{fanned}
use Rattle.crn_gates.specs.Gates.{Built, Factor, Zero, Up, Down, factor_of, stamped, slot_species, renamed, transfer_one, leaf_one_from, leaf_one_table, min_one_table, ones_at, IsUpward, AreUpward}
use Rattle.crn_gates.specs.Singles.{rails_of_singles, factors_of_singles, value_of_singles, reactions_of_singles, rails_after, ascending}

-- ---- positive factors

-- the factor of a positive number is upward
positive_upward : (q : ℚ) → 0ℚ <ℚ q → IsUpward (factor_of q)
positive_upward q h = factor_upward q (record { le = omega (arith, ints, h.lt) })

-- so are those of terms
singles_upward : (ts : List (ℚ × ℕ)) → All (λ t. 0ℚ <ℚ t.0) ts → AreUpward (factors_of_singles ts)
singles_upward [] h = tt
singles_upward (t ∷ ts) h = (positive_upward t.0 (h 0 t (omega arith)), singles_upward ts (λ i d l. h (suc i) d (omega arith)))

-- ---- tables that make a rail

-- a stamped table moves its operands into the rail at its slot p
pub moved_one : (b : Built) (xs : List ℕ) (new p : ℕ) (t : List Reaction) (y : ℕ) → length xs ≤ p → StampsOne b xs new p t → slot_species xs b.species p ≡ y →
    Moves b (stamped xs new t b) xs (y ∷ [])
moved_one b xs new p t y l it e = record {
  made = (subst (IsFree (stamped xs new t b)) e it.rail, tt, tt);
  fresh = (subst (λ v. b.species < v) e (slot_new xs b.species p l), tt);
  others = it.others;
}

-- ---- leaves

-- a transfer between slots is one between their species
renamed-transfer_one : (g : ℕ → ℕ) (f : Factor) (i y : ℕ) → renamed g (transfer_one f i y) ≡ transfer_one f (g i) (g y)
renamed-transfer_one g Zero i y = refl
renamed-transfer_one g (Up p q) i y = refl
renamed-transfer_one g (Down p q) i y = refl

-- there are as many rails as factors
rail_count : (ts : List (ℚ × ℕ)) → length (rails_of_singles ts) ≡ length (factors_of_singles ts)
rail_count [] = refl
rail_count (t ∷ ts) = ap suc (rail_count ts)

-- the slots from i on are those of the terms
abbrev AreSlots : (ℕ → ℕ) → ℕ → ℕ → List (ℚ × ℕ) → Type 0
AreSlots g n i ts = (j : ℕ) → g (i + j) ≡ slot_species (rails_of_singles ts) n j

-- so are those after the first
after_first : (g : ℕ → ℕ) (n i : ℕ) (t : ℚ × ℕ) (ts : List (ℚ × ℕ)) → AreSlots g n i (t ∷ ts) → (g i ≡ t.1) × AreSlots g n (suc i) ts
after_first g n i t ts h =
    let e : i ≡ i + 0 = omega arith in
    (ap g e ∙ h 0, λ j. let k : suc i + j ≡ i + suc j = omega arith in ap g k ∙ h (suc j))

-- a leaf's table over its slots is the reactions of its terms
singles_rows : (g : ℕ → ℕ) (n i y : ℕ) (ts : List (ℚ × ℕ)) → AreSlots g n i ts → renamed g (leaf_one_from i (factors_of_singles ts) y) ≡ reactions_of_singles (g y) ts
singles_rows g n i y [] h = refl
singles_rows g n i y (t ∷ ts) h =
    let k = after_first g n i t ts h in
    renamed-append g (transfer_one (factor_of t.0) i y) (leaf_one_from (suc i) (factors_of_singles ts) y)
    ∙ ap₂ (λ u v. u ++ v) (renamed-transfer_one g (factor_of t.0) i y ∙ ap (λ u. transfer_one (factor_of t.0) u (g y)) k.0) (singles_rows g n (suc i) y ts k.1)

-- the value of the operands is that of the terms
singles_value : (g : ℕ → ℕ) (m : ℕ → ℚ) (n i : ℕ) (ts : List (ℚ × ℕ)) → AreSlots g n i ts → ones_at i (factors_of_singles ts) (λ j. m (g j)) ≡ value_of_singles ts m
singles_value g m n i [] h = refl
singles_value g m n i (t ∷ ts) h =
    let k = after_first g n i t ts h in
    ap₂ (λ u v. u +ℚ v) (times_factor t.0 (m (g i)) ∙ ap (λ u. t.0 *ℚ m u) k.0) (singles_value g m n (suc i) ts k.1)

module _ (b : Built) (ts : List (ℚ × ℕ)) where
  -- the slots are the terms' own
  own_slots : AreSlots (slot_species (rails_of_singles ts) b.species) b.species 0 ts
  own_slots j = let e : 0 + j ≡ j = omega arith in ap (slot_species (rails_of_singles ts) b.species) e

  -- that of what the leaf makes is the next species
  leaf_slot : slot_species (rails_of_singles ts) b.species (length (factors_of_singles ts)) ≡ suc b.species
  leaf_slot =
      let e : length (factors_of_singles ts) ≡ length (rails_of_singles ts) + 0 = omega (arith, rail_count ts) in
      let f : b.species + 0 ≡ b.species = omega arith in
      ap (slot_species (rails_of_singles ts) b.species) e ∙ slot_after (rails_of_singles ts) b.species 0 ∙ ap suc f

  -- a stamped leaf is the reactions of its terms, into the next species
  pub leafed_one : (n : ℕ) (rs : List Reaction) → n ≡ b.species + 1 → rs ≡ b.reactions ++ reactions_of_singles n ts →
      stamped (rails_of_singles ts) 1 (leaf_one_table (factors_of_singles ts)) b ≡ record { species = n; reactions = rs }
  leafed_one n rs e h =
      let next : suc b.species ≡ n = omega arith in
      ap₂ (λ u v. record { species = u; reactions = v }) (sym e)
      (ap (λ zs. b.reactions ++ zs)
      (singles_rows (slot_species (rails_of_singles ts) b.species) b.species 0 (length (factors_of_singles ts)) ts own_slots ∙ ap (λ u. reactions_of_singles u ts) (leaf_slot ∙ next))
      ∙ sym h)

  module _ (b' : Built) (y : ℕ) (positive : All (λ t. 0ℚ <ℚ t.0) ts) (ok : IsSound b) (free : AllFree b (rails_of_singles ts))
      (e : stamped (rails_of_singles ts) 1 (leaf_one_table (factors_of_singles ts)) b ≡ b') (f : suc b.species ≡ y) where
    stamps : StampsOne b (rails_of_singles ts) 1 (length (factors_of_singles ts)) (leaf_one_table (factors_of_singles ts))
    stamps = leaf_one_stamps b (rails_of_singles ts) (factors_of_singles ts) (singles_upward ts positive) (rail_count ts) ok free

    -- a stamped leaf is sound
    pub leaf_one_sound : IsSound b'
    leaf_one_sound = subst IsSound e stamps.sound

    -- it moves its rails into a new one
    pub leaf_one_moves : Moves b b' (rails_of_singles ts) (y ∷ [])
    leaf_one_moves =
        subst (λ v. Moves b v (rails_of_singles ts) (y ∷ [])) e
        (moved_one b (rails_of_singles ts) 1 (length (factors_of_singles ts)) (leaf_one_table (factors_of_singles ts)) y (omega (arith, rail_count ts)) stamps (leaf_slot ∙ f))

    -- and makes their sum, each times its factor
    pub leaf_one_makes : IsMade b.species b' (λ _ m. m y ≡ value_of_singles ts m)
    leaf_one_makes =
        subst (λ v. IsMade b.species v (λ _ m. m y ≡ value_of_singles ts m)) e
        (λ net later s us c goes empty.
        sym (ap (made_in net us c) (leaf_slot ∙ f))
        ∙ leaf_one_in_run (factors_of_singles ts) (singles_upward ts positive) net b (rails_of_singles ts) later s us c (rail_count ts) (record { goes_on = goes; sound = ok; free = free; empty = empty })
        ∙ singles_value (slot_species (rails_of_singles ts) b.species) (made_in net us c) b.species 0 ts own_slots)

    -- what was made before stays
    pub leaf_one_keeps : (n : ℕ) (Claim : List ℚ → (ℕ → ℚ) → Type 0) → IsMade n b Claim → IsMade n b' Claim
    leaf_one_keeps n Claim h =
        subst (λ v. IsMade n v Claim) e
        (made_before n b (rails_of_singles ts) 1 (leaf_one_table (factors_of_singles ts)) Claim
        (leaf_one_gives (λ i. length (rails_of_singles ts) ≤ i) (factors_of_singles ts) 0 (length (factors_of_singles ts)) (omega (arith, rail_count ts))) h)

-- ---- the minimum

-- what holds of two different rails in order holds of them ascending
either_order : (P : List ℕ → Type 0) (x y : ℕ) → x ≢ y → (x < y → P (x ∷ y ∷ [])) → (y < x → P (y ∷ x ∷ [])) → P (ascending x y)
either_order P x y other f g =
    ⊎_elim (λ (l : x < y). let low : x ≡ min x y = omega arith in let high : y ≡ max x y = omega arith in subst P (ap₂ (λ u v. u ∷ v ∷ []) low high) (f l))
    (λ (l : y < x). let low : y ≡ min x y = omega arith in let high : x ≡ max x y = omega arith in subst P (ap₂ (λ u v. u ∷ v ∷ []) low high) (g l))
    (order x y other)
  where
    order : (x y : ℕ) → x ≢ y → (x < y) ⊎ (y < x)
    order x y h = grind arith

-- ascending, they have the same lesser
lesser_ascending : (m : ℕ → ℚ) (x y : ℕ) → x ≢ y → min_ℚ (m (min x y)) (m (max x y)) ≡ min_ℚ (m x) (m y)
lesser_ascending m x y other = either_order (λ xs. min_ℚ (m (get_or xs 0 0)) (m (get_or xs 1 0)) ≡ min_ℚ (m x) (m y)) x y other (λ l. refl) (λ l. min_ℚ_comm (m y) (m x))

module _ (b b' : Built) (x y z : ℕ) (ok : IsSound b) (free : AllFree b (x ∷ y ∷ [])) (e : stamped (ascending x y) 1 min_one_table b ≡ b') (f : suc b.species ≡ z) where
  turned : AllFree b (y ∷ x ∷ [])
  turned = (free.2.0, ((λ h. free.1.0 (sym h)), tt), (free.0, tt, tt))

  ascending_free : AllFree b (ascending x y)
  ascending_free = either_order (AllFree b) x y free.1.0 (λ _. free) (λ _. turned)

  min_stamps : StampsOne b (ascending x y) 1 2 min_one_table
  min_stamps = either_order (λ xs. StampsOne b xs 1 2 min_one_table) x y free.1.0 (λ l. min_one_stamps b x y l ok free) (λ l. min_one_stamps b y x l ok turned)

  min_slot : slot_species (ascending x y) b.species 2 ≡ z
  min_slot = omega (arith, f)

  -- a stamped minimum is sound
  pub min_one_sound : IsSound b'
  min_one_sound = subst IsSound e min_stamps.sound

  -- it moves two rails into a new one
  pub min_one_moves : Moves b b' (x ∷ y ∷ []) (z ∷ [])
  min_one_moves =
      let m : Moves b (stamped (ascending x y) 1 min_one_table b) (ascending x y) (z ∷ []) =
      moved_one b (ascending x y) 1 2 min_one_table z (omega arith) min_stamps min_slot in
      subst (λ v. Moves b v (x ∷ y ∷ []) (z ∷ [])) e
      (record { made = m.made; fresh = m.fresh; others = λ s g away. m.others s g (either_order (IsApart s) x y free.1.0 (λ _. away) (λ _. (away.1.0, (away.0, tt)))) })

  -- and makes the lesser
  pub min_one_makes : IsMade b.species b' (λ _ m. m z ≡ min_ℚ (m x) (m y))
  min_one_makes =
      subst (λ v. IsMade b.species v (λ _ m. m z ≡ min_ℚ (m x) (m y))) e
      (λ net later s us c goes empty.
      sym (ap (made_in net us c) min_slot)
      ∙ min_one_in_run net b (min x y) (max x y) later s us c (record { goes_on = goes; sound = ok; free = ascending_free; empty = empty })
      ∙ lesser_ascending (made_in net us c) x y free.1.0)

  -- what was made before stays
  pub min_one_keeps : (n : ℕ) (Claim : List ℚ → (ℕ → ℚ) → Type 0) → IsMade n b Claim → IsMade n b' Claim
  min_one_keeps n Claim h = subst (λ v. IsMade n v Claim) e (made_before n b (ascending x y) 1 min_one_table Claim ((omega arith, tt), tt) h)

-- ---- fan-out

-- the rails after m are new
rails_apart : (m k x : ℕ) → x ≤ m → IsApart x (rails_after m k)
rails_apart m zero x l = tt
rails_apart m (suc k) x l = (omega arith, rails_apart (suc m) k x (omega arith))

rails_above : (n m k : ℕ) → n ≤ m → AreAbove n (rails_after m k)
rails_above n m zero l = tt
rails_above n m (suc k) l = (omega arith, rails_above n (suc m) k (omega arith))

-- and all free, where each is
rails_free : (b : Built) (m k : ℕ) → ((i : ℕ) → i < k → IsFree b (suc (m + i))) → AllFree b (rails_after m k)
rails_free b m zero h = tt
rails_free b m (suc k) h =
    let first : suc (m + 0) ≡ suc m = omega arith in (
      subst (IsFree b) first (h 0 (omega arith)),
      rails_apart (suc m) k (suc m) (omega arith),
      rails_free b (suc m) k (λ i l. let e : suc (m + suc i) ≡ suc (suc m + i) = omega arith in subst (IsFree b) e (h (suc i) (omega arith))),
    )

-- amounts in order
amounts_after : (m x : ℕ → ℚ) (n : ℕ) (us : List ℕ) → ((i : ℕ) → i < length us → m (suc (n + i)) ≡ x (get_or us i 0)) → map m (rails_after n (length us)) ≡ map x us
amounts_after m x n [] h = refl
amounts_after m x n (u ∷ us) h =
    let first : suc n ≡ suc (n + 0) = omega arith in
    ap₂ (λ v vs. v ∷ vs) (ap m first ∙ h 0 (omega arith))
    (amounts_after m x (suc n) us (λ i l. let e : suc (suc n + i) ≡ suc (n + suc i) = omega arith in ap m e ∙ h (suc i) (omega arith)))

module _ (b b' : Built) (us cs : List ℕ) (e : b' ≡ fanned b.species us) (f : cs ≡ rails_after b.species (length us)) where
  -- fan-out moves the rails of the uses into the copies
  pub fan_one_moves : Moves b b' us cs
  fan_one_moves = subst (λ v. Moves b b' us v) (sym f)
      (subst (λ v. Moves b v us (rails_after b.species (length us))) (sym e) (record {
        made = rails_free (fanned b.species us) b.species (length us) (copies_free b.species us);
        fresh = rails_above b.species b.species (length us) (omega arith);
        others = λ s g away. record { low = g.low; high = omega (arith, g.high); untaken = fans_spare 1 b.species us b.species s away };
      }))

  -- and copies their amounts
  pub fan_one_makes : All (λ v. (1 ≤ v) × (v ≤ b.species)) us → IsMade b.species b' (λ a m. map m cs ≡ map (amount a) us)
  fan_one_makes within = subst (λ w. IsMade b.species b' (λ a m. map m w ≡ map (amount a) us)) (sym f)
      (subst (λ v. IsMade b.species v (λ a m. map m (rails_after b.species (length us)) ≡ map (amount a) us)) (sym e)
      (λ net later a vs d goes empty. amounts_after (made_in net vs d) (amount a) b.species us (λ i l.
      let r : (1 ≤ get_or us i 0) × (get_or us i 0 ≤ b.species) = within i 0 l in
      copy_in_run net b.species us later a vs d (record { goes_on = goes; empty = empty }) i l r.0 r.1
      ∙ rail_in_run net b.species us later a vs d (record { goes_on = goes; empty = empty }) (get_or us i 0) r.0 r.1)))

-- the species of a draft that has begun
pub width_direct : (d : Draft) → d.rails ≡ Direct → d ≡ begun d.rails d.variables d.context → d.variables ≤ d.built.species
width_direct d direct e = subst (λ n. d.variables ≤ n) (sym (ap (λ v. v.built.species) e ∙ ap (λ r. width_before r d.variables d.context) direct)) (go d.variables d.context)
  where
    go : (k : ℕ) (context : Bool) → k ≤ width_before Direct k context
    go k true = omega arith
    go k false = omega arith

-- uses of variables are of species that are there
pub uses_within : (k n : ℕ) (us : List ℕ) → k ≤ n → All (λ v. (1 ≤ v) × (v ≤ k)) us → All (λ v. (1 ≤ v) × (v ≤ n)) us
uses_within k n us l h = λ i d j. ((h i d j).0, omega (arith, (h i d j).1))

-- ---- loops

-- one more rail
pub rails_more : (e k : ℕ) (old new all : List ℕ) → e < k → new ≡ old ++ (e + 1) ∷ [] → old ++ rails_after e (k - e) ≡ all → new ++ rails_after (e + 1) (k - (e + 1)) ≡ all
rails_more e k old new all l h now =
    let j : suc (k - (e + 1)) ≡ k - e = omega arith in
    let r : e + 1 ≡ suc e = omega arith in
    ap (λ v. v ++ rails_after (e + 1) (k - (e + 1))) h
    ∙ append_assoc old ((e + 1) ∷ []) _
    ∙ ap (λ v. old ++ (v ∷ rails_after v (k - (e + 1)))) r
    ∙ ap (λ v. old ++ rails_after e v) j ∙ now

-- ---- calls in turn

-- terms of positive factors
pub one_positive : (ts : List (ℚ × ℕ)) (t : ℚ × ℕ) → ts ≡ t ∷ [] → pos 0 <ℤ t.0.num → All (λ u. 0ℚ <ℚ u.0) ts
one_positive ts t e h = subst (All (λ u. 0ℚ <ℚ u.0)) (sym e) (All-cons (λ (u : ℚ × ℕ). 0ℚ <ℚ u.0) t [] (positive_of_num t.0 h) (All-nil (λ (u : ℚ × ℕ). 0ℚ <ℚ u.0)))

pub two_positive : (ts : List (ℚ × ℕ)) (t u : ℚ × ℕ) → ts ≡ t ∷ u ∷ [] → pos 0 <ℤ t.0.num → pos 0 <ℤ u.0.num → All (λ v. 0ℚ <ℚ v.0) ts
two_positive ts t u e h k = subst (All (λ v. 0ℚ <ℚ v.0)) (sym e) (All-cons (λ (v : ℚ × ℕ). 0ℚ <ℚ v.0) t (u ∷ []) (positive_of_num t.0 h) (one_positive (u ∷ []) u refl k))

-- what two calls made one after another is free, where the second took rails that were there before the first
pub both_rails_free : (b b' b'' : Built) (xs ys : List ℕ) (x y : ℕ) → Moves b b' xs (x ∷ []) → Moves b' b'' ys (y ∷ []) → AreAtMost b.species ys → AllFree b'' (y ∷ x ∷ [])
both_rails_free b b' b'' xs ys x y m n h =
    let high : x ≤ b'.species = m.made.0.high in
    let new : b'.species < y = n.fresh.0 in
    (n.made.0, (omega arith, tt), (n.others x m.made.0 (apart_above b.species x ys h m.fresh.0), tt, tt))
