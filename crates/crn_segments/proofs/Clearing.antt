-- The marks are taken away, one after another.
use Rattle.std.proofs.Common.{◌≡◌, ◌≢◌, ℕ, ◌-◌, ◌≤◌, List, [], ◌∷◌, ◌++◌, length, set, Some, refl, sym, ◌∙◌, ap, ap₂, subst, ◌⊎◌, ⊎_elim, arith}
use Rattle.std.proofs.lemmas.List.{length-set}
use Rattle.std.proofs.lemmas.List.Elements.{Contains-append_left, Contains-push}
use Rattle.std.specs.List.{Contains}
use Rattle.std.specs.Vec.{vec_capacity}
use Rattle.std.proofs.lemmas.Bool.{cases_eq}
use Rattle.crn_fraction.specs.Rational.{ℚ, 0ℚ, ◌≤ℚ◌}
use Rattle.crn_net.specs.Network.{amount}
use Rattle.crn_segments.specs.Sums.{mark_of, sum_in, sum_at, by_mark, RoomOf}
use Rattle.crn_segments.specs.declared.work.Mark.{Mark}
use Rattle.crn_segments.specs.declared.work.Mark.TheVariants.{Untouched, Fits, TooBig}
use Rattle.crn_segments.specs.declared.work.Sums.{Sums}
use Rattle.crn_segments.proofs.Amounts.{amount-set_same, amount-set_other}
use Rattle.crn_segments.proofs.Marks.{mark_of-set_same, mark_of-set_other, cleared_listed, none_marked, ready_room}

-- the marked species are listed still
pub record ClearingOf (n room : ℕ) (ms : List Mark) (xs : List ℚ) (ts : List ℕ) : Type 0 where
  pub marks : length ms ≡ n
  pub sums : length xs ≡ n
  pub in_range : (s : ℕ) → Contains ts s → (1 ≤ s) × (s ≤ n)
  pub listed : (s : ℕ) → (mark_of ms s ≡ Untouched) ⊎ Contains ts s
  pub enough : n ≤ room

abbrev pub Clearing : ℕ → Sums → Type 0
Clearing n k = ClearingOf n (vec_capacity k.touched) k.marks.items k.next.items k.touched.items

pub last_in_range : (n room : ℕ) (ms : List Mark) (xs : List ℚ) (ts ns : List ℕ) (s : ℕ) → ClearingOf n room ms xs ts → ts ≡ ns ++ s ∷ [] → (1 ≤ s) × (s ≤ n)
last_in_range n room ms xs ts ns s h e = h.in_range s (subst (λ us. Contains us s) (sym e) (Contains-push ns s))

pub clearing_more : (n room : ℕ) (ms : List Mark) (xs : List ℚ) (ts ns : List ℕ) (s : ℕ) → ClearingOf n room ms xs ts → ts ≡ ns ++ s ∷ [] → 1 ≤ s → s ≤ n → ClearingOf n room (set ms (s - 1) Untouched) xs ns
clearing_more n room ms xs ts ns s h e low high = record {
  marks = length-set ms (s - 1) Untouched ∙ h.marks;
  sums = h.sums;
  in_range = λ j k. h.in_range j (subst (λ us. Contains us j) (sym e) (Contains-append_left ns (s ∷ []) j k));
  listed = cleared_listed ms s low (subst (λ k. s ≤ k) (sym h.marks) high) ns (λ j. subst (λ us. (mark_of ms j ≡ Untouched) ⊎ Contains us j) e (h.listed j));
  enough = h.enough;
}

pub clearing_ends : (n room : ℕ) (ms : List Mark) (xs : List ℚ) (ts : List ℕ) → ClearingOf n room ms xs ts → ts ≡ [] → RoomOf n room ms xs ts × (ts ≡ [])
clearing_ends n room ms xs ts h e =
    (subst (RoomOf n room ms xs) (sym e) (ready_room n room ms xs h.marks h.sums h.enough (none_marked ms ts e h.listed)), e)

-- ---- the sums are written into the state

-- the sums stay as they were, whether they are written or not
pub record Settling (old : Sums) (c : List ℚ) (now : Sums) (d : List ℚ) : Type 0 where
  pub clearing : Clearing (length c) now
  pub long : length d ≡ length c
  pub same : (s : ℕ) → sum_in old c s ≡ sum_in now d s

pub settled : (ms : List Mark) (xs d : List ℚ) (s j : ℕ) → 1 ≤ s → s ≤ length ms → s ≤ length d → mark_of ms s ≡ Fits → sum_at ms xs d j ≡ sum_at (set ms (s - 1) Untouched) xs (set d (s - 1) (amount xs s)) j
settled ms xs d s j low inside long e =
    ⊎_elim (λ (k : j ≡ s). subst (λ i. sum_at ms xs d i ≡ sum_at (set ms (s - 1) Untouched) xs (set d (s - 1) (amount xs s)) i) (sym k)
    (ap (λ m. by_mark m (amount xs s) (amount d s)) e
    ∙ sym (ap (λ m. by_mark m (amount xs s) (amount (set d (s - 1) (amount xs s)) s)) (mark_of-set_same ms s Untouched low inside) ∙ ap Some (amount-set_same d s (amount xs s) low long))))
    (λ (k : j ≢ s). sym (ap₂ (λ m x. by_mark m (amount xs j) x) (mark_of-set_other ms s j Untouched low k) (amount-set_other d s j (amount xs s) low k)))
    (cases_eq j s)

pub unsettled : (ms : List Mark) (xs d : List ℚ) (s j : ℕ) (b : ℚ) → 1 ≤ s → s ≤ length ms → mark_of ms s ≢ Fits → sum_at ms xs d s ≡ Some b → sum_at ms xs d j ≡ sum_at (set ms (s - 1) Untouched) xs d j
unsettled ms xs d s j b low inside h some =
    ⊎_elim (λ (k : j ≡ s). subst (λ i. sum_at ms xs d i ≡ sum_at (set ms (s - 1) Untouched) xs d i) (sym k)
    (ap (λ m. by_mark m (amount xs s) (amount d s)) (free_mark (mark_of ms s) (amount xs s) (amount d s) b h some)
    ∙ sym (ap (λ m. by_mark m (amount xs s) (amount d s)) (mark_of-set_same ms s Untouched low inside))))
    (λ (k : j ≢ s). sym (ap (λ m. by_mark m (amount xs j) (amount d j)) (mark_of-set_other ms s j Untouched low k)))
    (cases_eq j s)
  where
    free_mark : (m : Mark) (x a y : ℚ) → m ≢ Fits → by_mark m x a ≡ Some y → m ≡ Untouched
    free_mark Untouched x a y h k = refl
    free_mark Fits x a y h k = absurd (h refl)
    free_mark TooBig x a y h k = absurd (cc k)

module _ (old : Sums) (c : List ℚ) (now : Sums) (d : List ℚ) (ns : List ℕ) (s : ℕ) (w : Settling old c now d) (last : now.touched.items ≡ ns ++ s ∷ []) where
  pub settling_range : (1 ≤ s) × (s ≤ length c)
  settling_range = last_in_range (length c) (vec_capacity now.touched) now.marks.items now.next.items now.touched.items ns s w.clearing last

  inside : s ≤ length now.marks.items
  inside = subst (λ k. s ≤ k) (sym w.clearing.marks) settling_range.1

  inside_state : s ≤ length d
  inside_state = subst (λ k. s ≤ k) (sym w.long) settling_range.1

  pub sum_not_negative : mark_of now.marks.items s ≡ Fits → (b : ℚ) × (sum_in old c s ≡ Some b) × (0ℚ ≤ℚ b) → 0ℚ ≤ℚ amount now.next.items s
  sum_not_negative e k =
      let same : Some k.0 ≡ Some (amount now.next.items s) = sym k.1 ∙ w.same s ∙ ap (λ m. by_mark m (amount now.next.items s) (amount d s)) e in
      let b : k.0 ≡ amount now.next.items s = cc same in
      subst (λ x. 0ℚ ≤ℚ x) b k.2

  pub settle_clears : ClearingOf (length c) (vec_capacity now.touched) (set now.marks.items (s - 1) Untouched) now.next.items ns
  settle_clears = clearing_more (length c) (vec_capacity now.touched) now.marks.items now.next.items now.touched.items ns s w.clearing last settling_range.0 settling_range.1

  pub settle_long : (x : ℚ) → length (set d (s - 1) x) ≡ length c
  settle_long x = length-set d (s - 1) x ∙ w.long

  pub settle_fits : (x : ℚ) → mark_of now.marks.items s ≡ Fits → x ≡ amount now.next.items s → (j : ℕ) → sum_in old c j ≡ sum_at (set now.marks.items (s - 1) Untouched) now.next.items (set d (s - 1) x) j
  settle_fits x e h j =
      w.same j ∙ settled now.marks.items now.next.items d s j settling_range.0 inside inside_state e
      ∙ ap (λ y. sum_at (set now.marks.items (s - 1) Untouched) now.next.items (set d (s - 1) y) j) (sym h)

  pub settle_other : mark_of now.marks.items s ≢ Fits → (b : ℚ) × (sum_in old c s ≡ Some b) × (0ℚ ≤ℚ b) → (j : ℕ) → sum_in old c j ≡ sum_at (set now.marks.items (s - 1) Untouched) now.next.items d j
  settle_other e k j = w.same j ∙ unsettled now.marks.items now.next.items d s j k.0 settling_range.0 inside e (sym (w.same s) ∙ k.1)

pub nothing_left : {n : ℕ} (ts : List ℕ) → n ≡ length ts → n ≡ 0 → ts ≡ []
nothing_left [] e h = refl
nothing_left (t ∷ ts) e h = absurd (omega (arith, e, h))
