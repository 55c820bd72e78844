-- What the gate calls of a builder promise, from the laws of their tables.
use Rattle.std.specs.List.{All}
use Rattle.std.proofs.Common.{zero, ◌≡◌, ◌≢◌, ℕ, suc, ◌+◌, ◌-◌, ◌<◌, ◌≤◌, List, [], ◌∷◌, ◌++◌, length, Result, Ok, Err, IfOk, refl, sym, ◌∙◌, ap, ap₂, subst, arith, rules, take, get_or, append_assoc, append-nil, add-one}
use Rattle.std.proofs.Math.Seq.{take-suc}
use Rattle.crn_fraction.specs.Rational.{ℚ, 0ℚ, ◌+ℚ◌, ◌-ℚ◌, ◌*ℚ◌}
use Rattle.crn_net.specs.Network.{Reaction, IsApart}
use Rattle.crn_net.specs.Totals.{made_in}
use Rattle.crn_net.specs.Reactions.{AreAtMost}
use Rattle.crn_gates.proofs.BuildingLaws.{scale_stamps, leaf_stamps}
use Rattle.crn_gates.proofs.InRun.{scale_in_run, leaf_in_run}
use Rattle.crn_gates.proofs.Factors.{factor_is, times_factor}
use Rattle.crn_gates.proofs.Stamping.{slot_new}
use Rattle.crn_gates.proofs.Transfers.{renamed-append}
use Rattle.crn_gates.specs.Building.{IsSound, AllFree, Stamps}
use Rattle.crn_gates.specs.Calls.{Moves, IsMade}
use Rattle.crn_gates.specs.Drafts.{Draft, IsDraft}
use Rattle.crn_gates.specs.Gates.{Built, Factor, Zero, Up, Down, stamped, slot_species, renamed, transfer, transfer_single, scale_table, leaf_table, leaf_from, factor_of, width_of, terms_at, AreOperands}
use Rattle.crn_gates.specs.Pairs.{rails_of_pair, rails_of_pairs, rails_of_terms, operands_of, reactions_of_terms, pair_after, value_of, value_of_factored}
use Rattle.crn_gates.specs.Values.{MakesOfTwo, StampsOnTwo}
use Rattle.crn_gates.specs.declared.Pair.{Pair}
use Rattle.crn_gates.specs.declared.Copied.{Copied}
use Rattle.crn_gates.specs.declared.Copied.TheVariants.{Both, Single}
use Rattle.crn_gates.specs.declared.BuildError.{BuildError}

-- ---- what a call answers

-- a fact of a draft and a pair holds of those that a call answers
pub ok_both : (r : Result (Draft × Pair) BuildError) (d : Draft) (y : Pair) (P : Draft → Pair → Type 0) → IfOk r (λ p. p.0 ≡ d) → IfOk r (λ p. p.1 ≡ y) → P d y →
    IfOk r (λ p. P p.0 p.1)
ok_both (Ok p) d y P h k f = subst (λ z. P p.0 z) (sym k) (subst (λ z. P z y) (sym h) f)
ok_both (Err e) d y P h k f = search rules

-- a draft that goes on, as it is seen
pub goes_on : (v d : Draft) (b b' : Built) → v ≡ d → b' ≡ b → record v { built = b } ≡ record d { built = b' }
goes_on v d b b' e f = let with_built : Draft → Built → Draft = λ z w. record z { built = w } in ap₂ with_built e (sym f)

-- ---- stamped tables

-- a stamped table moves its operands into the pair at its slots p and q
pub moved : (b : Built) (xs : List ℕ) (new p q : ℕ) (t : List Reaction) (y : Pair) → length xs ≤ p → length xs ≤ q → Stamps b xs new p q t →
    slot_species xs b.species p ≡ y.plus → slot_species xs b.species q ≡ y.minus → Moves b (stamped xs new t b) xs (rails_of_pair y)
moved b xs new p q t y l k it e f = record {
  made = subst (λ v. AllFree (stamped xs new t b) (v ∷ y.minus ∷ [])) e
      (subst (λ v. AllFree (stamped xs new t b) (slot_species xs b.species p ∷ v ∷ [])) f (it.plus, (it.apart, tt), (it.minus, tt, tt)));
  fresh = (subst (λ v. b.species < v) e (slot_new xs b.species p l), (subst (λ v. b.species < v) f (slot_new xs b.species q k), tt));
  others = it.others;
}

module _ (new p q : ℕ) (t : List Reaction) (op : ℚ → ℚ → ℚ) (law : MakesOfTwo new t p q op) (b : Built) (x z y : Pair) (ok : IsSound b) (free : AllFree b (rails_of_pairs x z)) where
  -- what a stamped table of two pairs makes
  pub made : slot_species (rails_of_pairs x z) b.species p ≡ y.plus → slot_species (rails_of_pairs x z) b.species q ≡ y.minus →
      IsMade b.species (stamped (rails_of_pairs x z) new t b) (λ _ m. value_of y m ≡ op (value_of x m) (value_of z m))
  made e f net later a us c goes empty =
      sym (ap₂ (λ u v. made_in net us c u -ℚ made_in net us c v) e f)
      ∙ law net b x.plus x.minus z.plus z.minus later a us c (record { goes_on = goes; sound = ok; free = free; empty = empty })

-- the same network so far is as sound
pub sound_of : (b b' : Built) → IsSound b → b ≡ b' → IsSound b'
sound_of b b' ok e = subst IsSound e ok

module _ (new p q : ℕ) (t : List Reaction) (d : Draft) (a b y : Pair) (r : Result (Draft × Pair) BuildError) (ok : IsSound d.built) (free : AllFree d.built (rails_of_pairs a b))
    (e : slot_species (rails_of_pairs a b) d.built.species p ≡ y.plus) (f : slot_species (rails_of_pairs a b) d.built.species q ≡ y.minus)
    (network : IfOk r (λ v. v.0 ≡ record d { built = stamped (rails_of_pairs a b) new t d.built })) (pair : IfOk r (λ v. v.1 ≡ y)) where
  -- a gate of two pairs moves them into its pair
  pub two_move : StampsOnTwo new t p q → 4 ≤ p → 4 ≤ q → IfOk r (λ v. Moves d.built v.0.built (rails_of_pairs a b) (rails_of_pair v.1))
  two_move stamps l k =
      ok_both r _ y (λ z v. Moves d.built z.built (rails_of_pairs a b) (rails_of_pair v)) network pair
      (moved d.built (rails_of_pairs a b) new p q t y l k (stamps d.built a.plus a.minus b.plus b.minus ok free) e f)

  -- and makes its value
  pub two_make : (op : ℚ → ℚ → ℚ) → MakesOfTwo new t p q op → IfOk r (λ v. IsMade d.built.species v.0.built (λ _ m. value_of v.1 m ≡ op (value_of a m) (value_of b m)))
  two_make op law =
      ok_both r _ y (λ z v. IsMade d.built.species z.built (λ _ m. value_of v m ≡ op (value_of a m) (value_of b m))) network pair
      (made new p q t op law d.built a b y ok free e f)

-- a draft that is kept is sound, also as it is seen
pub sound_seen : (d d' : Draft) → IsDraft d → d ≡ d' → IsSound d'.built
sound_seen d d' it e = subst (λ v. IsSound v.built) e it.sound

-- ---- scaled pairs and leaves

-- a transfer between slots is one between their species
renamed-transfer : (g : ℕ → ℕ) (f : Factor) (i j y z : ℕ) → renamed g (transfer f i j y z) ≡ transfer f (g i) (g j) (g y) (g z)
renamed-transfer g Zero i j y z = refl
renamed-transfer g (Up p q) i j y z = refl
renamed-transfer g (Down p q) i j y z = refl

renamed-transfer_single : (g : ℕ → ℕ) (f : Factor) (i y z : ℕ) → renamed g (transfer_single f i y z) ≡ transfer_single f (g i) (g y) (g z)
renamed-transfer_single g Zero i y z = refl
renamed-transfer_single g (Up p q) i y z = refl
renamed-transfer_single g (Down p q) i y z = refl

-- a stamped scale is a transfer into the next two species
pub scaled : (b : Built) (x : Pair) (f : Factor) (n : ℕ) (rs : List Reaction) → n ≡ b.species + 2 → rs ≡ b.reactions ++ transfer f x.plus x.minus (n - 1) n →
    stamped (rails_of_pair x) 2 (scale_table f) b ≡ record { species = n; reactions = rs }
scaled b x f n rs e h =
    let low : slot_species (rails_of_pair x) b.species 2 ≡ n - 1 = omega arith in
    let high : slot_species (rails_of_pair x) b.species 3 ≡ n = omega arith in
    ap₂ (λ u v. record { species = u; reactions = v }) (sym e)
    (ap (λ zs. b.reactions ++ zs) (renamed-transfer (slot_species (rails_of_pair x) b.species) f 0 1 2 3 ∙ ap₂ (λ u v. transfer f x.plus x.minus u v) low high) ∙ sym h)

-- the last two of two more species
pub next_pair : (n m : ℕ) (y : Pair) → m ≡ n + 2 → y ≡ record { plus = m - 1; minus = m } → pair_after n ≡ y
next_pair n m y e h =
    let low : suc n ≡ m - 1 = omega arith in
    let high : suc (suc n) ≡ m = omega arith in
    ap₂ (λ u v. record { plus = u; minus = v }) low high ∙ sym h

module _ (q : ℚ) (b b' : Built) (a y : Pair) (ok : IsSound b) (free : AllFree b (rails_of_pair a)) (e : stamped (rails_of_pair a) 2 (scale_table (factor_of q)) b ≡ b') (f : pair_after b.species ≡ y) where
  low : slot_species (rails_of_pair a) b.species 2 ≡ suc b.species
  low = omega arith

  high : slot_species (rails_of_pair a) b.species 3 ≡ suc (suc b.species)
  high = omega arith

  -- a scale moves its pair into another
  pub scale_moves : Moves b b' (rails_of_pair a) (rails_of_pair y)
  scale_moves =
      subst (λ v. Moves b b' (rails_of_pair a) (rails_of_pair v)) f
      (subst (λ v. Moves b v (rails_of_pair a) (rails_of_pair (pair_after b.species))) e
      (moved b (rails_of_pair a) 2 2 3 (scale_table (factor_of q)) (pair_after b.species) (omega arith) (omega arith)
      (scale_stamps (factor_of q) (factor_is q) b a.plus a.minus ok free) low high))

  -- and makes its value
  pub scale_makes : IsMade b.species b' (λ _ m. value_of y m ≡ q *ℚ value_of a m)
  scale_makes =
      subst (λ v. IsMade b.species b' (λ _ m. value_of v m ≡ q *ℚ value_of a m)) f
      (subst (λ v. IsMade b.species v (λ _ m. value_of (pair_after b.species) m ≡ q *ℚ value_of a m)) e
      (λ net later s us c goes empty.
      sym (ap₂ (λ u v. made_in net us c u -ℚ made_in net us c v) low high)
      ∙ scale_in_run (factor_of q) net b a.plus a.minus later s us c (record { goes_on = goes; sound = ok; free = free; empty = empty })
      ∙ times_factor q _))

-- ---- leaves

-- the rails of terms are as many as their operands have
pub rails_width : (ts : List (ℚ × Copied)) → length (rails_of_terms ts) ≡ width_of (operands_of ts)
rails_width [] = refl
rails_width ((q, Both p) ∷ ts) = ap (λ n. suc (suc n)) (rails_width ts)
rails_width ((q, Single r) ∷ ts) = ap suc (rails_width ts)

-- their operands are operands
pub operands_are : (ts : List (ℚ × Copied)) → AreOperands (operands_of ts)
operands_are [] = tt
operands_are ((q, Both p) ∷ ts) = (factor_is q, operands_are ts)
operands_are ((q, Single r) ∷ ts) = (factor_is q, operands_are ts)

-- the slots from i on are those of the terms
abbrev AreSlots : (ℕ → ℕ) → ℕ → ℕ → List (ℚ × Copied) → Type 0
AreSlots g n i ts = (j : ℕ) → g (i + j) ≡ slot_species (rails_of_terms ts) n j

-- so are those after a pair
after_both : (g : ℕ → ℕ) (n i : ℕ) (q : ℚ) (p : Pair) (ts : List (ℚ × Copied)) → AreSlots g n i ((q, Both p) ∷ ts) → (g i ≡ p.plus) × (g (suc i) ≡ p.minus) × AreSlots g n (suc (suc i)) ts
after_both g n i q p ts h =
    let e : i ≡ i + 0 = omega arith in
    let f : suc i ≡ i + 1 = omega arith in
    (ap g e ∙ h 0, ap g f ∙ h 1, λ j. let k : suc (suc i) + j ≡ i + suc (suc j) = omega arith in ap g k ∙ h (suc (suc j)))

-- and after a single rail
after_single : (g : ℕ → ℕ) (n i : ℕ) (q : ℚ) (r : ℕ) (ts : List (ℚ × Copied)) → AreSlots g n i ((q, Single r) ∷ ts) → (g i ≡ r) × AreSlots g n (suc i) ts
after_single g n i q r ts h =
    let e : i ≡ i + 0 = omega arith in
    (ap g e ∙ h 0, λ j. let k : suc i + j ≡ i + suc j = omega arith in ap g k ∙ h (suc j))

-- a leaf's table over its slots is the reactions of its terms
leaf_rows : (g : ℕ → ℕ) (n i y : ℕ) (ts : List (ℚ × Copied)) → AreSlots g n i ts → renamed g (leaf_from i (operands_of ts) y) ≡ reactions_of_terms (g y) (g (suc y)) ts
leaf_rows g n i y [] h = refl
leaf_rows g n i y ((q, Both p) ∷ ts) h =
    let k = after_both g n i q p ts h in
    renamed-append g (transfer (factor_of q) i (suc i) y (suc y)) (leaf_from (suc (suc i)) (operands_of ts) y)
    ∙ ap₂ (λ u v. u ++ v) (renamed-transfer g (factor_of q) i (suc i) y (suc y) ∙ ap₂ (λ u v. transfer (factor_of q) u v (g y) (g (suc y))) k.0 k.1)
    (leaf_rows g n (suc (suc i)) y ts k.2)
leaf_rows g n i y ((q, Single r) ∷ ts) h =
    let k = after_single g n i q r ts h in
    renamed-append g (transfer_single (factor_of q) i y (suc y)) (leaf_from (suc i) (operands_of ts) y)
    ∙ ap₂ (λ u v. u ++ v) (renamed-transfer_single g (factor_of q) i y (suc y) ∙ ap (λ u. transfer_single (factor_of q) u (g y) (g (suc y))) k.0)
    (leaf_rows g n (suc i) y ts k.1)

-- the value of the operands is that of the terms
leaf_value : (g : ℕ → ℕ) (m : ℕ → ℚ) (n i : ℕ) (ts : List (ℚ × Copied)) → AreSlots g n i ts → terms_at i (operands_of ts) (λ j. m (g j)) ≡ value_of_factored ts m
leaf_value g m n i [] h = refl
leaf_value g m n i ((q, Both p) ∷ ts) h =
    let k = after_both g n i q p ts h in
    ap₂ (λ u v. u +ℚ v) (times_factor q _ ∙ ap₂ (λ u v. q *ℚ (m u -ℚ m v)) k.0 k.1) (leaf_value g m n (suc (suc i)) ts k.2)
leaf_value g m n i ((q, Single r) ∷ ts) h =
    let k = after_single g n i q r ts h in
    ap₂ (λ u v. u +ℚ v) (times_factor q _ ∙ ap (λ u. q *ℚ m u) k.0) (leaf_value g m n (suc i) ts k.1)

-- the slots after the operands' are new species
pub slot_after : (xs : List ℕ) (n j : ℕ) → slot_species xs n (length xs + j) ≡ suc (n + j)
slot_after [] n j = let e : 0 + j ≡ j = omega arith in ap (λ k. suc (n + k)) e
slot_after (x ∷ xs) n j = let e : suc (length xs) + j ≡ suc (length xs + j) = omega arith in ap (slot_species (x ∷ xs) n) e ∙ slot_after xs n j

module _ (b : Built) (ts : List (ℚ × Copied)) where
  -- the slots of what a leaf makes
  leaf_low : slot_species (rails_of_terms ts) b.species (width_of (operands_of ts)) ≡ suc b.species
  leaf_low =
      let e : width_of (operands_of ts) ≡ length (rails_of_terms ts) + 0 = omega (arith, rails_width ts) in
      let f : b.species + 0 ≡ b.species = omega arith in
      ap (slot_species (rails_of_terms ts) b.species) e ∙ slot_after (rails_of_terms ts) b.species 0 ∙ ap suc f

  leaf_high : slot_species (rails_of_terms ts) b.species (suc (width_of (operands_of ts))) ≡ suc (suc b.species)
  leaf_high =
      let e : suc (width_of (operands_of ts)) ≡ length (rails_of_terms ts) + 1 = omega (arith, rails_width ts) in
      let f : b.species + 1 ≡ suc b.species = omega arith in
      ap (slot_species (rails_of_terms ts) b.species) e ∙ slot_after (rails_of_terms ts) b.species 1 ∙ ap suc f

  -- a stamped leaf is the reactions of its terms, into the next two species
  pub leafed : (n : ℕ) (rs : List Reaction) → n ≡ b.species + 2 → rs ≡ b.reactions ++ reactions_of_terms (n - 1) n ts →
      stamped (rails_of_terms ts) 2 (leaf_table (operands_of ts)) b ≡ record { species = n; reactions = rs }
  leafed n rs e h =
      let low : suc b.species ≡ n - 1 = omega arith in
      let high : suc (suc b.species) ≡ n = omega arith in
      ap₂ (λ u v. record { species = u; reactions = v }) (sym e)
      (ap (λ zs. b.reactions ++ zs)
      (leaf_rows (slot_species (rails_of_terms ts) b.species) b.species 0 (width_of (operands_of ts)) ts (λ j. let e : 0 + j ≡ j = omega arith in ap (slot_species (rails_of_terms ts) b.species) e)
      ∙ ap₂ (λ u v. reactions_of_terms u v ts) (leaf_low ∙ low) (leaf_high ∙ high))
      ∙ sym h)

  module _ (b' : Built) (ok : IsSound b) (free : AllFree b (rails_of_terms ts)) (e : stamped (rails_of_terms ts) 2 (leaf_table (operands_of ts)) b ≡ b') where
    -- a stamped leaf is sound
    pub leaf_sound : IsSound b'
    leaf_sound = sound_of _ _ (leaf_stamps b (rails_of_terms ts) (operands_of ts) (operands_are ts) (rails_width ts) ok free).sound e

    -- it moves its copies into a pair
    pub leaf_moves : (y : Pair) → pair_after b.species ≡ y → Moves b b' (rails_of_terms ts) (rails_of_pair y)
    leaf_moves y f =
        subst (λ v. Moves b b' (rails_of_terms ts) (rails_of_pair v)) f
        (subst (λ v. Moves b v (rails_of_terms ts) (rails_of_pair (pair_after b.species))) e
        (moved b (rails_of_terms ts) 2 (width_of (operands_of ts)) (suc (width_of (operands_of ts))) (leaf_table (operands_of ts)) (pair_after b.species)
        (omega (arith, rails_width ts)) (omega (arith, rails_width ts))
        (leaf_stamps b (rails_of_terms ts) (operands_of ts) (operands_are ts) (rails_width ts) ok free) leaf_low leaf_high))

    -- and makes their sum, each times its factor
    pub leaf_makes : (y : Pair) → pair_after b.species ≡ y → IsMade b.species b' (λ _ m. value_of y m ≡ value_of_factored ts m)
    leaf_makes y f =
        subst (λ v. IsMade b.species b' (λ _ m. value_of v m ≡ value_of_factored ts m)) f
        (subst (λ v. IsMade b.species v (λ _ m. value_of (pair_after b.species) m ≡ value_of_factored ts m)) e
        (λ net later s us c goes empty.
        sym (ap₂ (λ u v. made_in net us c u -ℚ made_in net us c v) leaf_low leaf_high)
        ∙ leaf_in_run (operands_of ts) net b (rails_of_terms ts) later s us c (rails_width ts) (record { goes_on = goes; sound = ok; free = free; empty = empty })
        ∙ leaf_value (slot_species (rails_of_terms ts) b.species) (made_in net us c) b.species 0 ts
        (λ j. let k : 0 + j ≡ j = omega arith in ap (slot_species (rails_of_terms ts) b.species) k)))

-- reactions of terms one after another
reactions_of_terms-append : (y z : ℕ) (ts us : List (ℚ × Copied)) → reactions_of_terms y z (ts ++ us) ≡ reactions_of_terms y z ts ++ reactions_of_terms y z us
reactions_of_terms-append y z [] us = refl
reactions_of_terms-append y z ((q, Both p) ∷ ts) us =
    ap (λ rs. transfer (factor_of q) p.plus p.minus y z ++ rs) (reactions_of_terms-append y z ts us) ∙ sym (append_assoc (transfer (factor_of q) p.plus p.minus y z) _ _)
reactions_of_terms-append y z ((q, Single r) ∷ ts) us =
    ap (λ rs. transfer_single (factor_of q) r y z ++ rs) (reactions_of_terms-append y z ts us) ∙ sym (append_assoc (transfer_single (factor_of q) r y z) _ _)

module _ (y z : ℕ) (ts : List (ℚ × Copied)) (i : ℕ) (t : ℚ × Copied) (old before new : List Reaction) (l : i < length ts) (is : t ≡ get_or ts i t)
    (h : before ≡ old ++ reactions_of_terms y z (take i ts)) where
  -- one more term
  more : (rs : List Reaction) → reactions_of_terms y z (t ∷ []) ≡ rs → new ≡ before ++ rs → new ≡ old ++ reactions_of_terms y z (take (i + 1) ts)
  more rs e k =
      k ∙ ap (λ v. v ++ rs) h ∙ append_assoc old _ rs
      ∙ ap (λ v. old ++ v) (ap (λ v. reactions_of_terms y z (take i ts) ++ v) (sym e) ∙ sym (reactions_of_terms-append y z (take i ts) (t ∷ [])) ∙ ap (reactions_of_terms y z) (sym taken))
    where
      taken : take (i + 1) ts ≡ take i ts ++ t ∷ []
      taken = rw add-one (take-suc ts i t l ∙ ap (λ v. take i ts ++ v ∷ []) (sym is))

  -- of a pair
  pub more_both : (p : Pair) → t.1 ≡ Both p → new ≡ before ++ transfer (factor_of t.0) p.plus p.minus y z → new ≡ old ++ reactions_of_terms y z (take (i + 1) ts)
  more_both p e k = more (transfer (factor_of t.0) p.plus p.minus y z) (ap (λ v. reactions_of_terms y z ((t.0, v) ∷ [])) e ∙ append-nil _) k

  -- of a single rail
  pub more_single : (r : ℕ) → t.1 ≡ Single r → new ≡ before ++ transfer_single (factor_of t.0) r y z → new ≡ old ++ reactions_of_terms y z (take (i + 1) ts)
  more_single r e k = more (transfer_single (factor_of t.0) r y z) (ap (λ v. reactions_of_terms y z ((t.0, v) ∷ [])) e ∙ append-nil _) k

-- ---- two calls in turn

pub apart_above : (n x : ℕ) (ys : List ℕ) → AreAtMost n ys → n < x → IsApart x ys
apart_above n x [] h l = tt
apart_above n x (y ∷ ys) h l = let low : y ≤ n = h.0 in (omega arith, apart_above n x ys h.1 l)

-- what two calls made one after another is free, where the second took rails that were there before the first
pub both_free : (b b' b'' : Built) (xs ys : List ℕ) (p q : Pair) → Moves b b' xs (rails_of_pair p) → Moves b' b'' ys (rails_of_pair q) → AreAtMost b.species ys → AllFree b'' (rails_of_pairs p q)
both_free b b' b'' xs ys p q m n h =
    let plus_high : p.plus ≤ b'.species = m.made.0.high in
    let minus_high : p.minus ≤ b'.species = m.made.2.0.high in
    let plus_new : b'.species < q.plus = n.fresh.0 in
    let minus_new : b'.species < q.minus = n.fresh.1.0 in (
      n.others p.plus m.made.0 (apart_above b.species p.plus ys h m.fresh.0),
      (m.made.1.0, (omega arith, (omega arith, tt))),
      (n.others p.minus m.made.2.0 (apart_above b.species p.minus ys h m.fresh.1.0), (omega arith, (omega arith, tt)), n.made),
    )

-- one term has no factor of 0 where its own is none
pub one_factor : (ts : List (ℚ × Copied)) (t : ℚ × Copied) → ts ≡ t ∷ [] → t.0 ≢ 0ℚ → All (λ u. u.0 ≢ 0ℚ) ts
one_factor ts t e h = subst (All (λ u. u.0 ≢ 0ℚ)) (sym e) (λ i d l. go i d l)
  where
    go : (i : ℕ) (d : ℚ × Copied) → i < length (t ∷ []) → (get_or (t ∷ []) i d).0 ≢ 0ℚ
    go zero d l = h
    go (suc i) d l = absurd (omega arith)
