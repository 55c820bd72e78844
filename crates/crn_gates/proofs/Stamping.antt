-- What a stamped table does to a network.
use Rattle.std.proofs.Common.{◌≡◌, ◌≢◌, ℕ, zero, suc, ◌+◌, ◌<◌, ◌≤◌, List, [], ◌∷◌, ◌++◌, length, refl, sym, ◌∙◌, ap, ap₂, arith}
use Rattle.std.specs.Prelude.{pos}
use Rattle.crn_fraction.proofs.Ring.{+ℚ-zero, zero-*ℚ}
use Rattle.crn_fraction.specs.Rational.{ℚ, ◌+ℚ◌, ◌*ℚ◌, whole}
use Rattle.crn_gates.proofs.GateLaws.{slot_apart, slots_injective, FeedsForward-renamed, FeedsForward-append, made_by-renamed}
use Rattle.crn_gates.specs.Gates.{slot_species, renamed_parts, renamed, Built, stamped}
use Rattle.crn_net.proofs.Made.{made_by-append}
use Rattle.crn_net.specs.Network.{Part, Reaction, count_of, greatest, IsApart, AreDifferent}
use Rattle.crn_net.specs.Reactions.{given_all, Each, EachTaken, EachGiven, IsLeftAlone, FeedsForward, AreAtMost}
use Rattle.crn_net.specs.Totals.{made_by}
use Rattle.crn_net.proofs.Shape.{if_other}

-- a species that is no slot's
count_of_apart : (f : ℕ → ℕ) (s : ℕ) → ((i : ℕ) → f i ≢ s) → (ps : List Part) → count_of (renamed_parts f ps) s ≡ 0
count_of_apart f s h [] = refl
count_of_apart f s h (p ∷ ps) = ap₂ (λ x y. x + y) (if_other (f p.species) s p.count (h p.species)) (count_of_apart f s h ps)

-- a stamped table leaves alone what is no slot's species
pub left_alone : (f : ℕ → ℕ) (s : ℕ) → ((i : ℕ) → f i ≢ s) → (rs : List Reaction) → IsLeftAlone (renamed f rs) s
left_alone f s h [] = (refl, refl)
left_alone f s h (r ∷ rs) =
    let rest : IsLeftAlone (renamed f rs) s = left_alone f s h rs in
    (ap₂ (λ x y. x + y) (count_of_apart f s h r.takes) rest.0, ap₂ (λ x y. x + y) (count_of_apart f s h r.gives) rest.1)

-- a new slot's species is new
pub slot_new : (xs : List ℕ) (n i : ℕ) → length xs ≤ i → n < slot_species xs n i
slot_new [] n i h = omega arith
slot_new (x ∷ xs) n zero h = absurd (omega arith)
slot_new (x ∷ xs) n (suc i) h = slot_new xs n i (omega arith)

-- a side of new slots has none of the species that are there
count_of_new : (xs : List ℕ) (n s : ℕ) → s ≤ n → (ps : List Part) → Each (λ i. length xs ≤ i) ps → count_of (renamed_parts (slot_species xs n) ps) s ≡ 0
count_of_new xs n s l [] h = refl
count_of_new xs n s l (p ∷ ps) h =
    let new : n < slot_species xs n p.species = slot_new xs n p.species h.0 in
    ap₂ (λ x y. x + y) (if_other (slot_species xs n p.species) s p.count (omega arith)) (count_of_new xs n s l ps h.1)

-- a table that gives new slots gives none of the species that are there
pub given_new : (xs : List ℕ) (n s : ℕ) → s ≤ n → (t : List Reaction) → EachGiven (λ i. length xs ≤ i) t → given_all (renamed (slot_species xs n) t) s ≡ 0
given_new xs n s l [] h = refl
given_new xs n s l (r ∷ rs) h = ap₂ (λ x y. x + y) (count_of_new xs n s l r.gives h.0) (given_new xs n s l rs h.1)

-- what is not given stays
pub made_by_left : (rs : List Reaction) (m : ℕ → ℚ) (s : ℕ) → given_all rs s ≡ 0 → made_by rs m s ≡ m s
made_by_left [] m s h = refl
made_by_left (r ∷ rs) m s h =
    let z : count_of r.gives s ≡ 0 = omega arith in
    made_by_left rs _ s (omega arith) ∙ ap (λ k. m s +ℚ whole (pos k) *ℚ greatest r.takes m) z ∙ ap (λ x. m s +ℚ x) (zero-*ℚ _) ∙ +ℚ-zero _

-- a fact of what is taken gives another
pub EachTaken-map : (P Q : ℕ → Type 0) → ((s : ℕ) → P s → Q s) → (rs : List Reaction) → EachTaken P rs → EachTaken Q rs
EachTaken-map P Q h [] k = tt
EachTaken-map P Q h (r ∷ rs) k = (each r.takes k.0, EachTaken-map P Q h rs k.1)
  where
    each : (ps : List Part) → Each P ps → Each Q ps
    each [] k = tt
    each (p ∷ ps) k = (h p.species k.0, each ps k.1)

-- a fact of what is taken, of reactions one after another
pub EachTaken-append : (P : ℕ → Type 0) (rs qs : List Reaction) → EachTaken P rs → EachTaken P qs → EachTaken P (rs ++ qs)
EachTaken-append P [] qs h k = k
EachTaken-append P (r ∷ rs) qs h k = (h.0, EachTaken-append P rs qs h.1 k)

module _ (b : Built) (xs : List ℕ) (new : ℕ) (t : List Reaction) where
  -- a table stamped on rails that are not taken feeds forward
  pub stamped_feeds : FeedsForward b.reactions → FeedsForward t → AreDifferent xs → AreAtMost b.species xs →
      EachTaken (λ s. (s ≤ b.species) × IsApart s xs) b.reactions → FeedsForward (stamped xs new t b).reactions
  stamped_feeds h k different low apart =
      FeedsForward-append b.reactions _ h (FeedsForward-renamed _ (slots_injective xs b.species different low) t k)
      (EachTaken-map (λ s. (s ≤ b.species) × IsApart s xs) (IsLeftAlone (renamed (slot_species xs b.species) t))
      (λ s p. left_alone _ s (λ i e. slot_apart xs b.species s i p.1 p.0 (sym e)) t) b.reactions apart)

  -- of the species that are there, the stamped table makes nothing
  pub stamped_same : EachGiven (λ i. length xs ≤ i) t → (m : ℕ → ℚ) (s : ℕ) → s ≤ b.species → made_by (stamped xs new t b).reactions m s ≡ made_by b.reactions m s
  stamped_same h m s l =
      ap (λ f. f s) (made_by-append b.reactions (renamed (slot_species xs b.species) t) m) ∙ made_by_left _ _ s (given_new xs b.species s l t h)

  -- of a slot's species, what the table makes of the slot
  pub stamped_makes : AreDifferent xs → AreAtMost b.species xs → (m : ℕ → ℚ) (i : ℕ) →
      made_by (stamped xs new t b).reactions m (slot_species xs b.species i) ≡ made_by t (λ j. made_by b.reactions m (slot_species xs b.species j)) i
  stamped_makes different low m i =
      ap (λ f. f (slot_species xs b.species i)) (made_by-append b.reactions (renamed (slot_species xs b.species) t) m)
      ∙ ap (λ f. f i) (made_by-renamed _ (slots_injective xs b.species different low) t (made_by b.reactions m))
