-- The steps of the loops of fan-out, and of the one that makes inputs.
use Rattle.std.proofs.Common.{◌≡◌, ◌≢◌, ℕ, zero, suc, ◌+◌, ◌-◌, ◌*◌, ◌<◌, ◌≤◌, ◌==◌, if◌then◌else◌, Bool, true, false, IsTrue, rules, List, [], ◌∷◌, ◌++◌, length, get_or, drop, refl, sym, ◌∙◌, ap, ap₂, subst, arith, append_assoc, add-one}
use Rattle.std.proofs.lemmas.List.{map-append}
use Rattle.std.proofs.lemmas.Bool.Decides.{nat_tests}
use Rattle.crn_fraction.specs.Rational.{ℚ}
use Rattle.crn_net.specs.Network.{Reaction, Part, IsApart, amount}
use Rattle.crn_net.specs.Reactions.{EachTaken}
use Rattle.crn_net.specs.Totals.{made_in}
use Rattle.crn_net.specs.Views.{reaction_of, reactions_of, parts_of}
use Rattle.crn_net.specs.declared.Reaction as raw
use Rattle.crn_net.specs.declared.Part as raw_part
use Rattle.crn_net.specs.declared.Rails.{Rails}
use Rattle.crn_net.specs.declared.Rails.TheVariants.{Dual, Direct}
use Rattle.crn_net.specs.declared.Ends.{Ends}
use Rattle.crn_net.specs.declared.Ends.TheVariants.{Pair, One}
use Rattle.crn_gates.proofs.FanLaws.{copies_free}
use Rattle.crn_gates.proofs.Settled.{rail_in_run, copy_in_run}
use Rattle.crn_gates.proofs.Stamping.{EachTaken-append}
use Rattle.crn_gates.specs.Building.{IsFree, AllFree}
use Rattle.crn_gates.specs.Calls.{AreAbove, Moves, IsMade}
use Rattle.crn_gates.specs.Drafts.{Draft, begun, width_before, input_of, inputs_after}
use Rattle.crn_gates.specs.FanOut.{copies_of, fan, fans, fanned}
use Rattle.crn_gates.specs.Gates.{Built, one, reaction}
use Rattle.crn_gates.specs.Pairs.{rails_of_uses, rails_of_copies, copies_after, use_width, AreUses, AreCopies}
use Rattle.crn_gates.specs.declared.Copied.{Copied}
use Rattle.crn_gates.specs.declared.Use.{Use}
use Rattle.crn_gates.specs.declared.Use.TheVariants.{Variable, Context}

-- ---- how many copies

width_step : (k : ℕ) (us : List Use) (i : ℕ) (d : Use) → i < length us → length (rails_of_uses k (drop i us)) ≡ use_width (get_or us i d) + length (rails_of_uses k (drop (suc i) us))
width_step k [] i d l = absurd (omega arith)
width_step k (Variable v ∷ us) zero d l = omega arith
width_step k (Context ∷ us) zero d l = omega arith
width_step k (u ∷ us) (suc i) d l = width_step k us i d (omega arith)

-- the rails of the uses from i on: those of the next use, and those after it
pub width_left : (k : ℕ) (us : List Use) (i : ℕ) (d : Use) → i < length us →
    length (rails_of_uses k (drop i us)) ≡ use_width (get_or us i d) + length (rails_of_uses k (drop (i + 1) us))
width_left k us i d l = rw add-one (width_step k us i d l)

-- ---- fan-out

-- a rail with a copy has a reaction
some_fan : (rail : ℕ) (items : List raw_part.Part) (cs : List Part) → parts_of items ≡ cs → 0 < length items → reaction (one rail ∷ []) cs ∷ [] ≡ fan rail cs
some_fan rail [] cs e l = absurd (omega arith)
some_fan rail (p ∷ ps) cs e l = subst (λ v. reaction (one rail ∷ []) v ∷ [] ≡ fan rail v) e refl

-- and one without has none
none_fan : (rail : ℕ) (items : List raw_part.Part) (cs : List Part) → parts_of items ≡ cs → length items ≡ 0 → [] ≡ fan rail cs
none_fan rail [] cs e l = subst (λ v. [] ≡ fan rail v) e refl
none_fan rail (p ∷ ps) cs e l = absurd (omega arith)

module _ (n e : ℕ) (rs : List ℕ) (old : List raw.Reaction) (all : List Reaction) (l : e < n) (h : reactions_of old ++ fans (suc e) (n - e) rs n ≡ all) where
  -- the reactions of a rail, and those of the later ones
  next : (now : List Reaction) → now ≡ fan (e + 1) (copies_of (e + 1) rs n) → reactions_of old ++ (now ++ fans (suc (e + 1)) (n - (e + 1)) rs n) ≡ all
  next now is =
      let j : suc (n - (e + 1)) ≡ n - e = omega arith in
      let r : e + 1 ≡ suc e = omega arith in
      ap (λ v. reactions_of old ++ (v ++ fans (suc (e + 1)) (n - (e + 1)) rs n)) is
      ∙ ap (λ k. reactions_of old ++ (fan k (copies_of k rs n) ++ fans (suc k) (n - (e + 1)) rs n)) r
      ∙ ap (λ k. reactions_of old ++ fans (suc e) k rs n) j ∙ h

  -- where the rail has a copy
  pub fan_some : (new : List raw.Reaction) (r : raw.Reaction) → parts_of r.gives.items ≡ copies_of (e + 1) rs n → 0 < length r.gives.items → parts_of r.takes.items ≡ one (e + 1) ∷ [] →
      new ≡ old ++ r ∷ [] → reactions_of new ++ fans (suc (e + 1)) (n - (e + 1)) rs n ≡ all
  fan_some new r gives some takes is =
      ap (λ v. v ++ fans (suc (e + 1)) (n - (e + 1)) rs n) (ap reactions_of is ∙ map-append reaction_of old (r ∷ []))
      ∙ append_assoc (reactions_of old) (reaction_of r ∷ []) _
      ∙ next (reaction_of r ∷ []) (ap₂ (λ u v. reaction u v ∷ []) takes gives ∙ some_fan (e + 1) r.gives.items _ gives some)

  -- where it has none
  pub fan_none : (items : List raw_part.Part) → parts_of items ≡ copies_of (e + 1) rs n → length items ≡ 0 → reactions_of old ++ fans (suc (e + 1)) (n - (e + 1)) rs n ≡ all
  fan_none items gives none = next [] (none_fan (e + 1) items _ gives none)

-- ---- inputs

-- the input of a variable of each kind
pub dual_input : (rails : Rails) (e : ℕ) (x : Ends) → rails ≡ Dual → x ≡ Pair (2 * e + 1) (2 * e + 2) → x ≡ input_of rails e
dual_input rails e x h k =
    let low : 2 * e + 1 ≡ suc (e + e) = omega arith in
    let high : 2 * e + 2 ≡ suc (suc (e + e)) = omega arith in
    k ∙ ap₂ Pair low high ∙ ap (λ v. input_of v e) (sym h)

pub direct_input : (rails : Rails) (e : ℕ) (x : Ends) → rails ≡ Direct → x ≡ One (e + 1) → x ≡ input_of rails e
direct_input rails e x h k =
    let next : e + 1 ≡ suc e = omega arith in
    k ∙ ap One next ∙ ap (λ v. input_of v e) (sym h)

-- one more input
pub inputs_more : (rails : Rails) (e k : ℕ) (old new all : List Ends) (x : Ends) → e < k → x ≡ input_of rails e → new ≡ old ++ x ∷ [] → old ++ inputs_after rails e (k - e) ≡ all →
    new ++ inputs_after rails (e + 1) (k - (e + 1)) ≡ all
inputs_more rails e k old new all x l is h now =
    let j : suc (k - (e + 1)) ≡ k - e = omega arith in
    let r : e + 1 ≡ suc e = omega arith in
    ap (λ v. v ++ inputs_after rails (e + 1) (k - (e + 1))) h
    ∙ append_assoc old (x ∷ []) _
    ∙ ap₂ (λ u v. old ++ (u ∷ inputs_after rails v (k - (e + 1)))) is r
    ∙ ap (λ v. old ++ inputs_after rails e v) j ∙ now

-- ---- what fan-out promises

-- the rails of copies after m are new, up to the last
copies_apart : (k m x : ℕ) (us : List Use) → x ≤ m → IsApart x (rails_of_copies (copies_after m us))
copies_apart k m x [] l = tt
copies_apart k m x (Variable v ∷ us) l = (omega arith, (omega arith, copies_apart k (suc (suc m)) x us (omega arith)))
copies_apart k m x (Context ∷ us) l = (omega arith, copies_apart k (suc m) x us (omega arith))

copies_above : (n m : ℕ) (us : List Use) → n ≤ m → AreAbove n (rails_of_copies (copies_after m us))
copies_above n m [] l = tt
copies_above n m (Variable v ∷ us) l = (omega arith, (omega arith, copies_above n (suc (suc m)) us (omega arith)))
copies_above n m (Context ∷ us) l = (omega arith, copies_above n (suc m) us (omega arith))

-- and free, where each of them is
copies_all_free : (b : Built) (k m : ℕ) (us : List Use) → ((i : ℕ) → i < length (rails_of_uses k us) → IsFree b (suc (m + i))) → AllFree b (rails_of_copies (copies_after m us))
copies_all_free b k m [] h = tt
copies_all_free b k m (Variable v ∷ us) h =
    let low : suc (m + 0) ≡ suc m = omega arith in
    let high : suc (m + 1) ≡ suc (suc m) = omega arith in (
      subst (IsFree b) low (h 0 (omega arith)),
      (omega arith, copies_apart k (suc (suc m)) (suc m) us (omega arith)),
      (
        subst (IsFree b) high (h 1 (omega arith)),
        copies_apart k (suc (suc m)) (suc (suc m)) us (omega arith),
        copies_all_free b k (suc (suc m)) us (λ i l. let e : suc (m + suc (suc i)) ≡ suc (suc (suc m) + i) = omega arith in subst (IsFree b) e (h (suc (suc i)) (omega arith))),
      ),
    )
copies_all_free b k m (Context ∷ us) h =
    let low : suc (m + 0) ≡ suc m = omega arith in (
      subst (IsFree b) low (h 0 (omega arith)),
      copies_apart k (suc m) (suc m) us (omega arith),
      copies_all_free b k (suc m) us (λ i l. let e : suc (m + suc i) ≡ suc (suc m + i) = omega arith in subst (IsFree b) e (h (suc i) (omega arith))),
    )

-- a rail without a copy has no copy on its side
no_copies : (rail : ℕ) (rs : List ℕ) (n : ℕ) → IsApart rail rs → copies_of rail rs n ≡ []
no_copies rail [] n h = refl
no_copies rail (r ∷ rs) n h = ap (λ b. if b then one (suc n) ∷ copies_of rail rs (suc n) else copies_of rail rs (suc n)) (other r rail h.0) ∙ no_copies rail rs (suc n) h.1
  where
    other : (a b : ℕ) → b ≢ a → (a == b) ≡ false
    other a b e = grind (arith, nat_tests)

-- fan-out does not take it
fan_spares : (rail s : ℕ) (gs : List Part) → (rail ≡ s → gs ≡ []) → EachTaken (λ i. i ≢ s) (fan rail gs)
fan_spares rail s [] h = tt
fan_spares rail s (g ∷ gs) h = (((λ e. absurd (cc (h e))), tt), tt)

pub fans_spare : (rail j : ℕ) (rs : List ℕ) (n s : ℕ) → IsApart s rs → EachTaken (λ i. i ≢ s) (fans rail j rs n)
fans_spare rail zero rs n s h = tt
fans_spare rail (suc j) rs n s h =
    EachTaken-append (λ i. i ≢ s) (fan rail (copies_of rail rs n)) _ (fan_spares rail s _ (λ e. ap (λ r. copies_of r rs n) e ∙ no_copies s rs n h)) (fans_spare (suc rail) j rs n s h)

-- each use is of a rail that is there
rails_in : (k n : ℕ) (context : Bool) (us : List Use) → k + k ≤ n → (IsTrue context → suc (k + k) ≤ n) → AreUses k context us → (i : ℕ) → i < length (rails_of_uses k us) →
    (1 ≤ get_or (rails_of_uses k us) i 0) × (get_or (rails_of_uses k us) i 0 ≤ n)
rails_in k n context [] l c h i j = absurd (omega arith)
rails_in k n context (Variable zero ∷ us) l c h i j = absurd (omega (arith, h.0))
rails_in k n context (Variable (suc v) ∷ us) l c h zero j = (omega arith, omega (arith, h.1))
rails_in k n context (Variable (suc v) ∷ us) l c h (suc zero) j = (omega arith, omega (arith, h.1))
rails_in k n context (Variable (suc v) ∷ us) l c h (suc (suc i)) j = rails_in k n context us l c h.2 i (omega arith)
rails_in k n context (Context ∷ us) l c h zero j = (omega arith, c h.0)
rails_in k n context (Context ∷ us) l c h (suc i) j = rails_in k n context us l c h.1 i (omega arith)

-- copies of the amounts of their rails
are_copies : (k m : ℕ) (x y : ℕ → ℚ) (us : List Use) → ((i : ℕ) → i < length (rails_of_uses k us) → y (suc (m + i)) ≡ x (get_or (rails_of_uses k us) i 0)) →
    AreCopies k x us (copies_after m us) y
are_copies k m x y [] h = tt
are_copies k m x y (Variable v ∷ us) h =
    let low : suc m ≡ suc (m + 0) = omega arith in
    let high : suc (suc m) ≡ suc (m + 1) = omega arith in (
      ap y low ∙ h 0 (omega arith),
      ap y high ∙ h 1 (omega arith),
      are_copies k (suc (suc m)) x y us (λ i l. let e : suc (suc (suc m) + i) ≡ suc (m + suc (suc i)) = omega arith in ap y e ∙ h (suc (suc i)) (omega arith)),
    )
are_copies k m x y (Context ∷ us) h =
    let low : suc m ≡ suc (m + 0) = omega arith in
    (ap y low ∙ h 0 (omega arith), are_copies k (suc m) x y us (λ i l. let e : suc (suc m + i) ≡ suc (m + suc i) = omega arith in ap y e ∙ h (suc i) (omega arith)))

module _ (b b' : Built) (k : ℕ) (us : List Use) (cs : List Copied) (e : b' ≡ fanned b.species (rails_of_uses k us)) (f : cs ≡ copies_after b.species us) where
  -- fan-out moves the rails of the uses into the copies
  pub fan_moves : Moves b b' (rails_of_uses k us) (rails_of_copies cs)
  fan_moves = subst (λ v. Moves b b' (rails_of_uses k us) (rails_of_copies v)) (sym f)
      (subst (λ v. Moves b v (rails_of_uses k us) (rails_of_copies (copies_after b.species us))) (sym e) (record {
        made = copies_all_free (fanned b.species (rails_of_uses k us)) k b.species us (copies_free b.species (rails_of_uses k us));
        fresh = copies_above b.species b.species us (omega arith);
        others = λ s f away. record { low = f.low; high = omega (arith, f.high); untaken = fans_spare 1 b.species (rails_of_uses k us) b.species s away };
      }))

  -- and copies their amounts
  pub fan_makes : (context : Bool) → k + k ≤ b.species → (IsTrue context → suc (k + k) ≤ b.species) → AreUses k context us →
      IsMade b.species b' (λ a m. AreCopies k (amount a) us cs m)
  fan_makes context l c h = subst (λ w. IsMade b.species b' (λ a m. AreCopies k (amount a) us w m)) (sym f)
      (subst (λ v. IsMade b.species v (λ a m. AreCopies k (amount a) us (copies_after b.species us) m)) (sym e)
      (λ net later a vs d goes empty. are_copies k b.species (amount a) (made_in net vs d) us (λ i j.
      let r : (1 ≤ get_or (rails_of_uses k us) i 0) × (get_or (rails_of_uses k us) i 0 ≤ b.species) = rails_in k b.species context us l c h i j in
      copy_in_run net b.species (rails_of_uses k us) later a vs d (record { goes_on = goes; empty = empty }) i j r.0 r.1
      ∙ rail_in_run net b.species (rails_of_uses k us) later a vs d (record { goes_on = goes; empty = empty }) (get_or (rails_of_uses k us) i 0) r.0 r.1)))

-- ---- the species of a draft that has begun

pub width_dual : (d : Draft) → d.rails ≡ Dual → d ≡ begun d.rails d.variables d.context → d.variables + d.variables ≤ d.built.species
width_dual d dual e = subst (λ n. d.variables + d.variables ≤ n) (sym (ap (λ v. v.built.species) e ∙ ap (λ r. width_before r d.variables d.context) dual)) (go d.variables d.context)
  where
    go : (k : ℕ) (context : Bool) → k + k ≤ width_before Dual k context
    go k true = omega arith
    go k false = omega arith

pub width_context : (d : Draft) → d.rails ≡ Dual → d ≡ begun d.rails d.variables d.context → IsTrue d.context → suc (d.variables + d.variables) ≤ d.built.species
width_context d dual e h = subst (λ n. suc (d.variables + d.variables) ≤ n) (sym (ap (λ v. v.built.species) e ∙ ap (λ r. width_before r d.variables d.context) dual)) (go d.variables d.context h)
  where
    go : (k : ℕ) (context : Bool) → IsTrue context → suc (k + k) ≤ width_before Dual k context
    go k true t = omega arith
    go k false t = absurd (search rules)
