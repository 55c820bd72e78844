-- The nodes of a formula, laid one after another: they feed forward, and make the formula's value. The induction.
use Rattle.std.proofs.Common.{◌≡◌, ◌≢◌, ℕ, zero, suc, ◌+◌, ◌<◌, ◌≤◌, List, [], ◌∷◌, ◌++◌, length, get_or, ◌∙◌, ap, ap₂, subst, ◌⊎◌, inl, inr, arith, zero-add, length-append}
use Rattle.std.specs.List.{range_with_len}
use Rattle.std.proofs.lemmas.List.FromFn.{length-range_with_len}
use Rattle.crn_fraction.proofs.Ring.{sub_ℚ-self, zero-+ℚ}
use Rattle.crn_fraction.specs.Rational.{ℚ, 0ℚ, ◌+ℚ◌, ◌-ℚ◌, min_ℚ, max_ℚ}
use Rattle.crn_net.specs.Network.{Reaction, IsApart, AreDifferent}
use Rattle.crn_net.specs.Reactions.{EachTaken, EachGiven, FeedsForward, EachReaction, AreAtMost}
use Rattle.crn_net.specs.Totals.{made_by}
use Rattle.crn_gates.specs.Gates.{slot_species, renamed, min_table, max_table, add_table, sub_table, scale_table, Factor, Operand, AreOperands, transfer, times, width_of, Built, leaf_from, IsFactor, terms_at, IsTable, factor_of}
use Rattle.crn_gates.specs.Terms.{terms_of}
use Rattle.crn_gates.proofs.Factors.{times_factor, factor_is}
use Rattle.crn_gates.proofs.GateLaws.{slots_injective, transfer_makes}
use Rattle.crn_gates.proofs.Lists.{EachGiven-append, EachReaction-append}
use Rattle.crn_gates.proofs.Stamping.{EachTaken-map, EachTaken-append, made_by_left, stamped_feeds, stamped_same, stamped_makes, slot_new}
use Rattle.crn_gates.proofs.Tables.{TableLaw, EachGiven-map, EachTaken-renamed, EachGiven-weaken, given_above, slot_high, slot_above, EachReaction-more, min_well, add_well, sub_well, max_well, min_is, add_is, sub_is, max_is, scale_is, leaf_is, add_law, sub_table_law, min_table_law, max_table_law}
use Rattle.crn_gates.proofs.Terms.{terms_over, terms_value}
use Rattle.crn_gates.proofs.Transfers.{transfer_taken, transfer_given, transfer_well, leaf_takes, leaf_well, leaf_makes, terms_same}
use Rattle.crn_formula.specs.Formulas.{Formula, Lin, Add, Sub, Scale, Min, Max, formula_value, IsOver}
use Rattle.crn_gates.specs.Pairs.{rails_of_uses}
use Rattle.crn_gates.specs.Calls.{AreAbove}
use Rattle.crn_dual.specs.Layout.{uses_of_terms, uses_of, operands_of, rails_of, copy_count, Laid, gate, leaf, gate_of_one, gate_of_two, nodes}
use Rattle.crn_dual.proofs.Copies.{copies_apart, copies_different, copies_low, copy_at}
use Rattle.crn_dual.proofs.Leaves.{length-rails_of_terms, rails_of_uses-append, are_operands, HoldColumns, operands_value, form_value-at, AreCopied, copied_front, copied_back}

-- ---- the statement

-- a network so far in which the copies from lo + 1 to hi are not taken
pub record Ready (b : Built) (lo hi : ℕ) : Type 0 where
  pub feeds : FeedsForward b.reactions
  pub gives : EachGiven (λ s. s ≤ b.species) b.reactions
  pub takes : EachTaken (λ s. (s ≤ b.species) × ((s ≤ lo) ⊎ (hi < s))) b.reactions
  pub room : hi ≤ b.species
  pub each : EachReaction b.species b.reactions

-- what laying a formula of w copies and this value onto b did, where the copies hold what they should
pub record Lays (b : Built) (lo w : ℕ) (m : ℕ → ℚ) (holds : Type 0) (v : ℚ) (l : Laid) : Type 1 where
  pub feeds : FeedsForward l.built.reactions
  pub gives : EachGiven (λ s. s ≤ l.built.species) l.built.reactions
  pub each : EachReaction l.built.species l.built.reactions
  -- what is taken was taken before, or is one of its copies, or is new and not of the pair
  pub takes : (P : ℕ → Type 0) → EachTaken P b.reactions → ((s : ℕ) → lo < s → s ≤ lo + w → P s) →
      ((s : ℕ) → b.species < s → s ≤ l.built.species → s ≢ l.plus → s ≢ l.minus → P s) → EachTaken P l.built.reactions
  pub plus : (b.species < l.plus) × (l.plus ≤ l.built.species)
  pub minus : (b.species < l.minus) × (l.minus ≤ l.built.species)
  pub apart : l.plus ≢ l.minus
  pub same : (s : ℕ) → s ≤ b.species → made_by l.built.reactions m s ≡ made_by b.reactions m s
  pub value : holds → made_by l.built.reactions m l.plus -ℚ made_by l.built.reactions m l.minus ≡ v

-- ---- any gate

module _ (b : Built) (xs : List ℕ) (new p q : ℕ) (t : List Reaction) (it : IsTable (length xs) new p q t)
    (different : AreDifferent xs) (low : AreAtMost b.species xs) (gives : EachGiven (λ s. s ≤ b.species) b.reactions) where
  -- it gives species of the network
  gate_gives : EachGiven (λ s. s ≤ (gate xs new t p q b).built.species) (gate xs new t p q b).built.reactions
  gate_gives =
      EachGiven-append (λ s. s ≤ b.species + new) b.reactions _ (EachGiven-weaken (λ s. s ≤ b.species) (λ s. s ≤ b.species + new) (λ s l. omega arith) b.reactions gives)
      (EachGiven-map (λ i. (length xs ≤ i) × (i < length xs + new)) (λ s. s ≤ b.species + new) (slot_species xs b.species) (λ i l. slot_high xs b.species new i low l.1) t it.gives)

  -- its new species hold nothing before
  gate_empty : (m : ℕ → ℚ) → ((s : ℕ) → b.species < s → m s ≡ 0ℚ) → (i : ℕ) → length xs ≤ i → made_by b.reactions m (slot_species xs b.species i) ≡ 0ℚ
  gate_empty m empty i l =
      let fresh : b.species < slot_species xs b.species i = slot_new xs b.species i l in
      made_by_left b.reactions m _ (given_above b.species _ fresh b.reactions gives) ∙ empty _ fresh

-- ---- a gate of two pairs

-- the rails of two pairs
abbrev operands : Laid → Laid → List ℕ
operands x y = x.plus ∷ x.minus ∷ y.plus ∷ y.minus ∷ []

module _ (b : Built) (lo hi w w' : ℕ) (m : ℕ → ℚ) (holds holds' : Type 0) (v v' : ℚ) (x y : Laid)
    (ready : Ready b lo hi) (fits : lo + w + w' ≤ hi) (empty : (s : ℕ) → b.species < s → m s ≡ 0ℚ)
    (first : Lays b lo w m holds v x) (second : Lays x.built (lo + w) w' m holds' v' y) where
  -- what holds of each species that y's network has taken
  between : (P : ℕ → Type 0) → ((s : ℕ) → s ≤ b.species → (s ≤ lo) ⊎ (hi < s) → P s) → ((s : ℕ) → lo < s → s ≤ lo + w + w' → P s) →
      ((s : ℕ) → b.species < s → s ≤ y.built.species → s ≢ x.plus → s ≢ x.minus → s ≢ y.plus → s ≢ y.minus → P s) → EachTaken P y.built.reactions
  between P old copies new =
      second.takes P
      (first.takes P (EachTaken-map (λ s. (s ≤ b.species) × ((s ≤ lo) ⊎ (hi < s))) P (λ s h. old s h.0 h.1) b.reactions ready.takes)
      (λ s l h. copies s l (omega arith))
      (λ s l h n n'. new s l (le_y s h) n n' (not_y s h) (not_y' s h)))
      (λ s l h. copies s (omega arith) h)
      (λ s l h n n'. new s (omega (arith, first.plus.0, first.plus.1)) h (not_x s l) (not_x' s l) n n')
    where
      le_y : (s : ℕ) → s ≤ x.built.species → s ≤ y.built.species
      le_y s h = omega (arith, second.plus.0, second.plus.1)

      not_y : (s : ℕ) → s ≤ x.built.species → s ≢ y.plus
      not_y s h = omega (arith, second.plus.0)

      not_y' : (s : ℕ) → s ≤ x.built.species → s ≢ y.minus
      not_y' s h = omega (arith, second.minus.0)

      not_x : (s : ℕ) → x.built.species < s → s ≢ x.plus
      not_x s h = omega (arith, first.plus.1)

      not_x' : (s : ℕ) → x.built.species < s → s ≢ x.minus
      not_x' s h = omega (arith, first.minus.1)

  -- the four rails are different
  different : AreDifferent (operands x y)
  different = (
    (first.apart, (omega (arith, first.plus, second.plus), (omega (arith, first.plus, second.minus), tt))),
    ((omega (arith, first.minus, second.plus), (omega (arith, first.minus, second.minus), tt)), ((second.apart, tt), (tt, tt))),
  )

  -- they exist
  low : AreAtMost y.built.species (operands x y)
  low = (omega (arith, first.plus, second.plus), (omega (arith, first.minus, second.plus), (omega (arith, second.plus), (omega (arith, second.minus), tt))))

  -- they are new
  above : AreAbove b.species (operands x y)
  above = (first.plus.0, (first.minus.0, (omega (arith, first.plus, second.plus), (omega (arith, first.plus, second.minus), tt))))

  grown : b.species ≤ x.built.species
  grown = omega (arith, first.plus)

  grown' : x.built.species ≤ y.built.species
  grown' = omega (arith, second.plus)

  -- species that were there are none of them
  apart_below : (s : ℕ) → s ≤ b.species → (s ≤ y.built.species) × IsApart s (operands x y)
  apart_below s l = (omega (arith, grown, grown'), (omega (arith, above.0), (omega (arith, above.1.0), (omega (arith, above.1.1.0), (omega (arith, above.1.1.1.0), tt)))))

  -- no reaction takes them yet
  apart_taken : EachTaken (λ s. (s ≤ y.built.species) × IsApart s (operands x y)) y.built.reactions
  apart_taken =
      between (λ s. (s ≤ y.built.species) × IsApart s (operands x y)) (λ s l _. apart_below s l) (λ s _ h. apart_below s (omega (arith, ready.room)))
      (λ s _ l a a' c c'. (l, (a, (a', (c, (c', tt))))))

  module _ (new p q : ℕ) (t : List Reaction) (it : IsTable 4 new p q t) where
    -- what is taken with the gate
    gate_takes : (P : ℕ → Type 0) → EachTaken P b.reactions → ((s : ℕ) → lo < s → s ≤ lo + (w + w') → P s) →
        ((s : ℕ) → b.species < s → s ≤ y.built.species + new → s ≢ slot_species (operands x y) y.built.species p → s ≢ slot_species (operands x y) y.built.species q → P s) →
        EachTaken P (y.built.reactions ++ renamed (slot_species (operands x y) y.built.species) t)
    gate_takes P old copies fresh =
        EachTaken-append P y.built.reactions _
        (second.takes P
        (first.takes P old (λ s l h. copies s l (omega arith)) (λ s l h _ _. earlier s l (omega (arith, grown'))))
        (λ s l h. copies s (omega arith) (omega arith))
        (λ s l h _ _. earlier s (omega (arith, grown)) h))
        (EachTaken-renamed (λ i. (i < 4 + new) × (i ≢ p) × (i ≢ q)) P (slot_species (operands x y) y.built.species)
        (λ i h. fresh _ (slot_above (operands x y) b.species y.built.species i above (omega (arith, grown, grown'))) (slot_high (operands x y) y.built.species new i low h.0)
        (λ e. h.1 (slots_injective (operands x y) y.built.species different low i p e)) (λ e. h.2 (slots_injective (operands x y) y.built.species different low i q e)))
        t it.takes)
      where
        earlier : (s : ℕ) → b.species < s → s ≤ y.built.species → P s
        earlier s l h =
            let p_new : y.built.species < slot_species (operands x y) y.built.species p = slot_new (operands x y) y.built.species p it.plus.0 in
            let q_new : y.built.species < slot_species (operands x y) y.built.species q = slot_new (operands x y) y.built.species q it.minus.0 in
            fresh s l (omega arith) (omega arith) (omega arith)

    -- what was made before stays
    gate_same : (s : ℕ) → s ≤ y.built.species → made_by (gate_of_two x y new t p q).built.reactions m s ≡ made_by y.built.reactions m s
    gate_same s l = stamped_same y.built (operands x y) new t (EachGiven-weaken (λ i. (4 ≤ i) × (i < 4 + new)) (λ i. 4 ≤ i) (λ i h. h.0) t it.gives) m s l

    -- the gate on the two pairs
    two_lay : EachReaction (y.built.species + new) (renamed (slot_species (operands x y) y.built.species) t) → (op : ℚ → ℚ → ℚ) → TableLaw p q t op → (all : Type 0) → (all → holds) → (all → holds') →
        Lays b lo (w + w') m all (op v v') (gate_of_two x y new t p q)
    two_lay well op law all h h' =
        record {
          each = EachReaction-append _ y.built.reactions _ (EachReaction-more y.built.species _ (omega arith) y.built.reactions second.each) well;
          feeds = stamped_feeds y.built (operands x y) new t second.feeds it.feeds different low apart_taken;
          gives = gate_gives y.built (operands x y) new p q t it different low second.gives;
          takes = gate_takes;
          plus = (slot_above (operands x y) b.species y.built.species p above (omega (arith, grown, grown')), slot_high (operands x y) y.built.species new p low it.plus.1);
          minus = (slot_above (operands x y) b.species y.built.species q above (omega (arith, grown, grown')), slot_high (operands x y) y.built.species new q low it.minus.1);
          apart = λ e. it.apart (slots_injective (operands x y) y.built.species different low p q e);
          same = λ s l. gate_same s (omega (arith, grown, grown')) ∙ second.same s (omega (arith, grown)) ∙ first.same s l;
          value = λ a.
              ap₂ (λ u z. u -ℚ z) (stamped_makes y.built (operands x y) new t different low m p) (stamped_makes y.built (operands x y) new t different low m q)
              ∙ law (λ j. made_by y.built.reactions m (slot_species (operands x y) y.built.species j))
              (gate_empty y.built (operands x y) new p q t it different low second.gives m (λ s l. empty s (omega (arith, grown, grown'))))
              ∙ ap₂ op (ap₂ (λ u z. u -ℚ z) (second.same x.plus first.plus.1) (second.same x.minus first.minus.1) ∙ first.value (h a)) (second.value (h' a));
        }

-- ---- a leaf

module _ (ts : List Operand) (are : AreOperands ts) (lo hi : ℕ) (b : Built) (m : ℕ → ℚ) (ready : Ready b lo hi) (fits : lo + width_of ts ≤ hi)
    (empty : (s : ℕ) → b.species < s → m s ≡ 0ℚ) where
  -- its copies
  copies : List ℕ
  copies = range_with_len (suc lo) (width_of ts)

  long : length (range_with_len (suc lo) (width_of ts)) ≡ width_of ts
  long = length-range_with_len (suc lo) (width_of ts)

  leaf_slots : IsTable (length (range_with_len (suc lo) (width_of ts))) 2 (width_of ts) (suc (width_of ts)) (leaf_from 0 ts (width_of ts))
  leaf_slots = leaf_is ts (length (range_with_len (suc lo) (width_of ts))) long

  leaf_different : AreDifferent (range_with_len (suc lo) (width_of ts))
  leaf_different = copies_different (width_of ts) (suc lo)

  leaf_low : AreAtMost b.species (range_with_len (suc lo) (width_of ts))
  leaf_low = copies_low (width_of ts) (suc lo) b.species (omega (arith, ready.room))

  new_slot : (i : ℕ) → width_of ts ≤ i → i < width_of ts + 2 →
      (b.species < slot_species (range_with_len (suc lo) (width_of ts)) b.species i) × (slot_species (range_with_len (suc lo) (width_of ts)) b.species i ≤ b.species + 2)
  new_slot i l h = (slot_new (range_with_len (suc lo) (width_of ts)) b.species i (omega (arith, long)), slot_high (range_with_len (suc lo) (width_of ts)) b.species 2 i leaf_low (omega (arith, long)))

  old_slot : (j : ℕ) → j < width_of ts →
      (lo < slot_species (range_with_len (suc lo) (width_of ts)) b.species j) × (slot_species (range_with_len (suc lo) (width_of ts)) b.species j ≤ lo + width_of ts)
  old_slot j l = let e : slot_species (range_with_len (suc lo) (width_of ts)) b.species j ≡ suc lo + j = copy_at (width_of ts) (suc lo) b.species j l in (omega arith, omega arith)

  leaf_apart : EachTaken (λ s. (s ≤ b.species) × IsApart s (range_with_len (suc lo) (width_of ts))) b.reactions
  leaf_apart =
      EachTaken-map (λ s. (s ≤ b.species) × ((s ≤ lo) ⊎ (hi < s))) (λ s. (s ≤ b.species) × IsApart s (range_with_len (suc lo) (width_of ts)))
      (λ s h. (h.0, copies_apart (width_of ts) (suc lo) s (λ i l n. outside s i h.1 l (omega arith)))) b.reactions ready.takes
    where
      outside : (s i : ℕ) → (s ≤ lo) ⊎ (hi < s) → lo < i → i ≤ hi → s ≢ i
      outside s i h l n = grind arith

  -- where the copies' amounts give a value, the leaf makes it
  leaf_lays : (holds : Type 0) (v : ℚ) → (holds → terms_at 0 ts (λ j. made_by b.reactions m (suc (lo + j))) ≡ v) → Lays b lo (width_of ts) m holds v (leaf ts lo b)
  leaf_lays holds v sum =
      let xs : List ℕ = range_with_len (suc lo) (width_of ts) in
      let f : ℕ → ℕ = slot_species (range_with_len (suc lo) (width_of ts)) b.species in
      let w : ℕ = width_of ts in
      let p : (b.species < f w) × (f w ≤ b.species + 2) = new_slot w (omega arith) (omega arith) in
      let q : (b.species < f (suc w)) × (f (suc w) ≤ b.species + 2) = new_slot (suc w) (omega arith) (omega arith) in
      record {
        feeds = stamped_feeds b xs 2 _ ready.feeds leaf_slots.feeds leaf_different leaf_low leaf_apart;
        gives = gate_gives b xs 2 _ _ _ leaf_slots leaf_different leaf_low ready.gives;
        each = EachReaction-append _ b.reactions _ (EachReaction-more b.species _ (omega arith) b.reactions ready.each)
            (leaf_well (b.species + 2) ts 0 w f are (λ j _ l. let o : (lo < f j) × (f j ≤ lo + w) = old_slot j (omega arith) in (omega arith, omega (arith, ready.room))) (omega arith, omega arith) (omega arith, omega arith));
        takes = λ P old taken fresh. EachTaken-append P b.reactions _ old
            (EachTaken-renamed (λ i. i < w) P f (λ i l. let o : (lo < f i) × (f i ≤ lo + w) = old_slot i l in taken (f i) o.0 o.1) (leaf_from 0 ts w) (leaf_takes (λ i. i < w) ts 0 w (λ j _ l. omega arith)));
        plus = p;
        minus = q;
        apart = λ e. leaf_slots.apart (slots_injective xs b.species leaf_different leaf_low w (suc w) e);
        same = λ s l. stamped_same b xs 2 (leaf_from 0 ts w) (EachGiven-weaken (λ i. (length xs ≤ i) × (i < length xs + 2)) (λ i. length xs ≤ i) (λ i h. h.0) _ leaf_slots.gives) m s l;
        value = λ h.
            ap₂ (λ u z. u -ℚ z) (stamped_makes b xs 2 (leaf_from 0 ts w) leaf_different leaf_low m w) (stamped_makes b xs 2 (leaf_from 0 ts w) leaf_different leaf_low m (suc w))
            ∙ leaf_makes ts 0 w (λ j. made_by b.reactions m (f j)) (omega arith)
            ∙ ap₂ (λ u z. u +ℚ z) (ap₂ (λ u z. u -ℚ z) (zeros w (omega arith)) (zeros (suc w) (omega arith)) ∙ sub_ℚ-self _)
            (terms_same ts 0 (λ j. made_by b.reactions m (f j)) (λ j. made_by b.reactions m (suc (lo + j))) (λ j l. ap (made_by b.reactions m) (copy_is j (omega arith))) ∙ sum h)
            ∙ zero-+ℚ _;
      }
    where
      zeros : (i : ℕ) → width_of ts ≤ i → made_by b.reactions m (slot_species (range_with_len (suc lo) (width_of ts)) b.species i) ≡ 0ℚ
      zeros i l = gate_empty b (range_with_len (suc lo) (width_of ts)) 2 _ _ _ leaf_slots leaf_different leaf_low ready.gives m empty i (omega (arith, long))

      copy_is : (j : ℕ) → j < width_of ts → slot_species (range_with_len (suc lo) (width_of ts)) b.species j ≡ suc (lo + j)
      copy_is j l = omega (arith, copy_at (width_of ts) (suc lo) b.species j l)

-- ---- a scaled pair

module _ (b : Built) (lo hi w : ℕ) (m : ℕ → ℚ) (holds : Type 0) (v : ℚ) (x : Laid) (ready : Ready b lo hi) (fits : lo + w ≤ hi)
    (empty : (s : ℕ) → b.species < s → m s ≡ 0ℚ) (first : Lays b lo w m holds v x) (f : Factor) (ok : IsFactor f) where
  pair_different : AreDifferent (x.plus ∷ x.minus ∷ [])
  pair_different = ((first.apart, tt), (tt, tt))

  pair_low : AreAtMost x.built.species (x.plus ∷ x.minus ∷ [])
  pair_low = (first.plus.1, (first.minus.1, tt))

  below_pair : (s : ℕ) → s ≤ b.species → (s ≤ x.built.species) × IsApart s (x.plus ∷ x.minus ∷ [])
  below_pair s l = (omega (arith, first.plus), (omega (arith, first.plus), (omega (arith, first.minus), tt)))

  -- no reaction takes the pair yet
  pair_apart : EachTaken (λ s. (s ≤ x.built.species) × IsApart s (x.plus ∷ x.minus ∷ [])) x.built.reactions
  pair_apart =
      first.takes (λ s. (s ≤ x.built.species) × IsApart s (x.plus ∷ x.minus ∷ []))
      (EachTaken-map (λ s. (s ≤ b.species) × ((s ≤ lo) ⊎ (hi < s))) (λ s. (s ≤ x.built.species) × IsApart s (x.plus ∷ x.minus ∷ [])) (λ s h. below_pair s h.0) b.reactions ready.takes)
      (λ s l h. below_pair s (omega (arith, ready.room))) (λ s l h n n'. (h, (n, (n', tt))))

  -- the gate on the pair
  scale_lays : Lays b lo w m holds (times f v) (gate_of_one x 2 (scale_table f) 2 3)
  scale_lays =
      let n : ℕ = x.built.species in
      let low : (s : ℕ) → s ≤ b.species → s ≤ n = λ s l. omega (arith, first.plus) in
      record {
        feeds = stamped_feeds x.built (x.plus ∷ x.minus ∷ []) 2 _ first.feeds (scale_is f).feeds pair_different pair_low pair_apart;
        gives = gate_gives x.built (x.plus ∷ x.minus ∷ []) 2 _ _ _ (scale_is f) pair_different pair_low first.gives;
        each = EachReaction-append _ x.built.reactions _ (EachReaction-more n _ (omega arith) x.built.reactions first.each)
            (transfer_well (n + 2) f (slot_species (x.plus ∷ x.minus ∷ []) n) 0 1 2 3 ok (omega (arith, first.plus), omega (arith, first.plus)) (omega (arith, first.minus), omega (arith, first.minus)) (omega arith, omega arith) (omega arith, omega arith));
        takes = λ P old copies fresh. EachTaken-append P x.built.reactions _
            (first.takes P old copies (λ s l h _ _. fresh s l (omega arith) (omega arith) (omega arith)))
            (EachTaken-renamed (λ i. i < 2) P (slot_species (x.plus ∷ x.minus ∷ []) n) (λ i l. operand P fresh i l) (transfer f 0 1 2 3) (transfer_taken (λ i. i < 2) f 0 1 2 3 (omega arith) (omega arith)));
        plus = (omega (arith, first.plus), omega arith);
        minus = (omega (arith, first.plus), omega arith);
        apart = omega arith;
        same = λ s l. stamped_same x.built (x.plus ∷ x.minus ∷ []) 2 (transfer f 0 1 2 3) (transfer_given (λ i. 2 ≤ i) f 0 1 2 3 (omega arith) (omega arith)) m s (low s l) ∙ first.same s l;
        value = λ h.
            ap₂ (λ u z. u -ℚ z) (stamped_makes x.built (x.plus ∷ x.minus ∷ []) 2 (transfer f 0 1 2 3) pair_different pair_low m 2) (stamped_makes x.built (x.plus ∷ x.minus ∷ []) 2 (transfer f 0 1 2 3) pair_different pair_low m 3)
            ∙ transfer_makes f 0 1 2 3 (λ j. made_by x.built.reactions m (slot_species (x.plus ∷ x.minus ∷ []) n j)) (omega arith) (omega arith) (omega arith)
            ∙ ap₂ (λ u z. u +ℚ z) (ap₂ (λ u z. u -ℚ z) (zeros 2 (omega arith)) (zeros 3 (omega arith)) ∙ sub_ℚ-self _) (ap (times f) (first.value h))
            ∙ zero-+ℚ _;
      }
    where
      zeros : (i : ℕ) → 2 ≤ i → made_by x.built.reactions m (slot_species (x.plus ∷ x.minus ∷ []) x.built.species i) ≡ 0ℚ
      zeros i l = gate_empty x.built (x.plus ∷ x.minus ∷ []) 2 _ _ _ (scale_is f) pair_different pair_low first.gives m (λ s k. empty s (omega (arith, first.plus))) i l

      operand : (P : ℕ → Type 0) → ((s : ℕ) → b.species < s → s ≤ x.built.species + 2 → s ≢ suc (x.built.species + 0) → s ≢ suc (x.built.species + 1) → P s) →
          (i : ℕ) → i < 2 → P (slot_species (x.plus ∷ x.minus ∷ []) x.built.species i)
      operand P fresh zero l = fresh x.plus first.plus.0 (omega (arith, first.plus)) (omega (arith, first.plus)) (omega (arith, first.plus))
      operand P fresh (suc zero) l = fresh x.minus first.minus.0 (omega (arith, first.minus)) (omega (arith, first.minus)) (omega (arith, first.minus))
      operand P fresh (suc (suc i)) l = absurd (omega arith)

-- ---- the induction

-- what is laid leaves a network on which the next formula can be laid
next_ready : (b : Built) (lo hi w : ℕ) (m : ℕ → ℚ) (holds : Type 0) (v : ℚ) (l : Laid) → Ready b lo hi → lo + w ≤ hi → Lays b lo w m holds v l → Ready l.built (lo + w) hi
next_ready b lo hi w m holds v l ready fits laid =
    record {
      feeds = laid.feeds;
      gives = laid.gives;
      each = laid.each;
      takes = laid.takes (λ s. (s ≤ l.built.species) × ((s ≤ lo + w) ⊎ (hi < s)))
          (EachTaken-map (λ s. (s ≤ b.species) × ((s ≤ lo) ⊎ (hi < s))) (λ s. (s ≤ l.built.species) × ((s ≤ lo + w) ⊎ (hi < s))) (λ s h. (omega (arith, h.0, laid.plus), old s h.1)) b.reactions ready.takes)
          (λ s k n. (omega (arith, ready.room, laid.plus), inl n)) (λ s k n _ _. (n, inr (omega (arith, ready.room))));
      room = omega (arith, ready.room, laid.plus);
    }
  where
    old : (s : ℕ) → (s ≤ lo) ⊎ (hi < s) → (s ≤ lo + w) ⊎ (hi < s)
    old s h = grind arith

-- how many rails two formulas take copies of
length-rails_of_both : (k : ℕ) (e f : Formula) → length (rails_of_uses k (uses_of k e ++ uses_of k f)) ≡ length (rails_of k e) + length (rails_of k f)
length-rails_of_both k e f = ap length (rails_of_uses-append k (uses_of k e) (uses_of k f)) ∙ length-append (rails_of k e) (rails_of k f)

-- there are as many rails as copies
pub length-rails : (k : ℕ) (e : Formula) → length (rails_of k e) ≡ copy_count k e
length-rails k (Lin form) = length-rails_of_terms k (terms_of form)
length-rails k (Scale q e) = length-rails k e
length-rails k (Add e f) = length-rails_of_both k e f ∙ ap₂ (λ x y. x + y) (length-rails k e) (length-rails k f)
length-rails k (Sub e f) = length-rails_of_both k e f ∙ ap₂ (λ x y. x + y) (length-rails k e) (length-rails k f)
length-rails k (Min e f) = length-rails_of_both k e f ∙ ap₂ (λ x y. x + y) (length-rails k e) (length-rails k f)
length-rails k (Max e f) = length-rails_of_both k e f ∙ ap₂ (λ x y. x + y) (length-rails k e) (length-rails k f)

-- copies that hold what their rails do, of the first of two formulas
front : (k : ℕ) (e f : Formula) (n : ℕ) (m rails : ℕ → ℚ) → AreCopied (rails_of_uses k (uses_of k e ++ uses_of k f)) n m rails → AreCopied (rails_of k e) n m rails
front k e f n m rails h = copied_front (rails_of k e) (rails_of k f) n m rails (subst (λ rs. AreCopied rs n m rails) (rails_of_uses-append k (uses_of k e) (uses_of k f)) h)

-- and of the second, after the first was laid
back : (k : ℕ) (e f : Formula) (n top : ℕ) (m m' rails : ℕ → ℚ) → n + (copy_count k e + copy_count k f) ≤ top → ((s : ℕ) → s ≤ top → m' s ≡ m s) →
    AreCopied (rails_of_uses k (uses_of k e ++ uses_of k f)) n m rails → AreCopied (rails_of k f) (n + copy_count k e) m' rails
back k e f n top m m' rails fits same h i l =
    same (suc (n + copy_count k e + i)) (omega (arith, length-rails k f))
    ∙ copied_back (rails_of k e) (rails_of k f) (copy_count k e) n m rails (length-rails k e) (subst (λ rs. AreCopied rs n m rails) (rails_of_uses-append k (uses_of k e) (uses_of k f)) h) i l

-- laying a formula of n columns
pub lays : (k n : ℕ) (e : Formula) → IsOver n e → (rails : ℕ → ℚ) (ys : List ℚ) → length ys ≡ n → HoldColumns k n rails (λ v. get_or ys v 0ℚ) →
    (lo hi : ℕ) (b : Built) (m : ℕ → ℚ) → Ready b lo hi → lo + copy_count k e ≤ hi → ((s : ℕ) → b.species < s → m s ≡ 0ℚ) →
    Lays b lo (copy_count k e) m (AreCopied (rails_of k e) lo (made_by b.reactions m) rails) (formula_value e ys) (nodes k e lo b)
unfolding nodes
lays k n (Lin form) o rails ys long held lo hi b m ready fits empty =
    leaf_lays (operands_of k (terms_of form)) (are_operands k n (terms_of form) (terms_over n 0 form (omega (arith, o)))) lo hi b m ready fits empty
    (AreCopied (rails_of_uses k (uses_of_terms k (terms_of form))) lo (made_by b.reactions m) rails) (formula_value (Lin form) ys)
    (λ h. operands_value k n (terms_of form) (terms_over n 0 form (omega (arith, o))) rails (λ v. get_or ys v 0ℚ) held (λ j. made_by b.reactions m (suc (lo + j))) h
    ∙ terms_value 0 form (λ v. get_or ys v 0ℚ) ys (omega (arith, o, long)) (λ i. ap (λ j. get_or ys j 0ℚ) (zero-add i))
    ∙ form_value-at form ys)
lays k n (Scale q e) o rails ys long held lo hi b m ready fits empty =
    subst (λ v. Lays b lo (copy_count k e) m (AreCopied (rails_of k e) lo (made_by b.reactions m) rails) v (gate_of_one (nodes k e lo b) 2 (scale_table (factor_of q)) 2 3))
    (times_factor q (formula_value e ys))
    (scale_lays b lo hi (copy_count k e) m _ _ _ ready fits empty (lays k n e o rails ys long held lo hi b m ready fits empty) (factor_of q) (factor_is q))
lays k n (Add e f) o rails ys long held lo hi b m ready fits empty =
    let first = lays k n e o.0 rails ys long held lo hi b m ready (omega arith) empty in
    let second = lays k n f o.1 rails ys long held (lo + copy_count k e) hi (nodes k e lo b).built m (next_ready b lo hi (copy_count k e) m _ _ _ ready (omega arith) first) (omega arith) (λ s l. empty s (omega (arith, first.plus))) in
    two_lay b lo hi (copy_count k e) (copy_count k f) m _ _ _ _ _ _ ready (omega arith) empty first second 2 4 5 add_table add_is
    (add_well _ _ _ _ _ (omega (arith, first.plus)) (omega (arith, first.minus)) (omega (arith, second.plus)) (omega (arith, second.minus)) (omega (arith, first.plus, second.plus)) (omega (arith, first.minus, second.plus)) (omega (arith, second.plus)) (omega (arith, second.minus)))
    (λ u v. u +ℚ v) add_law _ (front k e f lo (made_by b.reactions m) rails) (back k e f lo hi (made_by b.reactions m) (made_by (nodes k e lo b).built.reactions m) rails (omega arith) (λ s l. first.same s (omega (arith, ready.room))))
lays k n (Sub e f) o rails ys long held lo hi b m ready fits empty =
    let first = lays k n e o.0 rails ys long held lo hi b m ready (omega arith) empty in
    let second = lays k n f o.1 rails ys long held (lo + copy_count k e) hi (nodes k e lo b).built m (next_ready b lo hi (copy_count k e) m _ _ _ ready (omega arith) first) (omega arith) (λ s l. empty s (omega (arith, first.plus))) in
    two_lay b lo hi (copy_count k e) (copy_count k f) m _ _ _ _ _ _ ready (omega arith) empty first second 2 4 5 sub_table sub_is
    (sub_well _ _ _ _ _ (omega (arith, first.plus)) (omega (arith, first.minus)) (omega (arith, second.plus)) (omega (arith, second.minus)) (omega (arith, first.plus, second.plus)) (omega (arith, first.minus, second.plus)) (omega (arith, second.plus)) (omega (arith, second.minus)))
    (λ u v. u -ℚ v) sub_table_law _ (front k e f lo (made_by b.reactions m) rails) (back k e f lo hi (made_by b.reactions m) (made_by (nodes k e lo b).built.reactions m) rails (omega arith) (λ s l. first.same s (omega (arith, ready.room))))
lays k n (Min e f) o rails ys long held lo hi b m ready fits empty =
    let first = lays k n e o.0 rails ys long held lo hi b m ready (omega arith) empty in
    let second = lays k n f o.1 rails ys long held (lo + copy_count k e) hi (nodes k e lo b).built m (next_ready b lo hi (copy_count k e) m _ _ _ ready (omega arith) first) (omega arith) (λ s l. empty s (omega (arith, first.plus))) in
    two_lay b lo hi (copy_count k e) (copy_count k f) m _ _ _ _ _ _ ready (omega arith) empty first second 4 6 7 min_table min_is
    (min_well _ _ _ _ _ (omega (arith, first.plus)) (omega (arith, first.minus)) (omega (arith, second.plus)) (omega (arith, second.minus)) (omega (arith, first.plus, second.plus)) (omega (arith, first.minus, second.plus)) (omega (arith, second.plus)) (omega (arith, second.minus)))
    min_ℚ min_table_law _ (front k e f lo (made_by b.reactions m) rails) (back k e f lo hi (made_by b.reactions m) (made_by (nodes k e lo b).built.reactions m) rails (omega arith) (λ s l. first.same s (omega (arith, ready.room))))
lays k n (Max e f) o rails ys long held lo hi b m ready fits empty =
    let first = lays k n e o.0 rails ys long held lo hi b m ready (omega arith) empty in
    let second = lays k n f o.1 rails ys long held (lo + copy_count k e) hi (nodes k e lo b).built m (next_ready b lo hi (copy_count k e) m _ _ _ ready (omega arith) first) (omega arith) (λ s l. empty s (omega (arith, first.plus))) in
    two_lay b lo hi (copy_count k e) (copy_count k f) m _ _ _ _ _ _ ready (omega arith) empty first second 4 6 7 max_table max_is
    (max_well _ _ _ _ _ (omega (arith, first.plus)) (omega (arith, first.minus)) (omega (arith, second.plus)) (omega (arith, second.minus)) (omega (arith, first.plus, second.plus)) (omega (arith, first.minus, second.plus)) (omega (arith, second.plus)) (omega (arith, second.minus)))
    max_ℚ max_table_law _ (front k e f lo (made_by b.reactions m) rails) (back k e f lo hi (made_by b.reactions m) (made_by (nodes k e lo b).built.reactions m) rails (omega arith) (λ s l. first.same s (omega (arith, ready.room))))

-- nodes add species
pub nodes_grow : (k : ℕ) (e : Formula) (n : ℕ) (b : Built) → b.species ≤ (nodes k e n b).built.species
unfolding nodes
nodes_grow k (Lin form) n b = omega arith
nodes_grow k (Scale q e) n b = let h : b.species ≤ (nodes k e n b).built.species = nodes_grow k e n b in omega arith
nodes_grow k (Add e f) n b = omega (arith, nodes_grow k e n b, nodes_grow k f (n + copy_count k e) (nodes k e n b).built)
nodes_grow k (Sub e f) n b = omega (arith, nodes_grow k e n b, nodes_grow k f (n + copy_count k e) (nodes k e n b).built)
nodes_grow k (Min e f) n b = omega (arith, nodes_grow k e n b, nodes_grow k f (n + copy_count k e) (nodes k e n b).built)
nodes_grow k (Max e f) n b = omega (arith, nodes_grow k e n b, nodes_grow k f (n + copy_count k e) (nodes k e n b).built)
