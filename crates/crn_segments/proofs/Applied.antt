-- A step by the sums of its touched species.
use Rattle.std.proofs.Common.{◌≡◌, ℕ, zero, suc, ◌+◌, ◌≤◌, List, [], length, replicate, get_or, Option, Some, None, refl, sym, ◌∙◌, ap, ap₂, subst, arith}
use Rattle.std.proofs.lemmas.List.{length-replicate}
use Rattle.std.specs.Option.{option_or}
use Rattle.std.specs.Vec.{vec_capacity}
use Rattle.crn_fraction.specs.Rational.{ℚ, 0ℚ, ◌≤ℚ◌}
use Rattle.crn_net.specs.Network.{Network, amount, IsNotNegative, IsState}
use Rattle.crn_net.specs.Totals.{change}
use Rattle.crn_net.specs.declared.Flow.{Flow}
use Rattle.crn_segments.proofs.Marks.{none_marked, ready_room}
use Rattle.crn_segments.proofs.Runs.{sum_there, none_refused}
use Rattle.crn_segments.proofs.Steps.{AreSums}
use Rattle.crn_segments.specs.Fits.{flows_with}
use Rattle.crn_segments.specs.Step.{sum_of, sum_refusal, first_refusal, sums_refusal}
use Rattle.crn_segments.specs.Sums.{RoomOf, IsReady, mark_of, by_mark, sum_in, sum_from}
use Rattle.crn_segments.specs.declared.StepError.{StepError}
use Rattle.crn_segments.specs.declared.work.Mark.TheVariants.{Untouched}
use Rattle.crn_segments.specs.declared.work.Sums.{Sums}

-- ---- room that is new

untouched_at : (n i : ℕ) → get_or (replicate n Untouched) i Untouched ≡ Untouched
untouched_at zero i = refl
untouched_at (suc n) zero = refl
untouched_at (suc n) (suc i) = untouched_at n i

mark_untouched : (n s : ℕ) → mark_of (replicate n Untouched) s ≡ Untouched
mark_untouched n zero = refl
mark_untouched n (suc i) = untouched_at n i

pub new_is_ready : (n : ℕ) (k : Sums) → k.marks.items ≡ replicate n Untouched → length k.next.items ≡ n → k.touched.items ≡ [] → n ≤ vec_capacity k.touched → IsReady n k
new_is_ready n k marks next touched room = (
  subst (λ ts. RoomOf n (vec_capacity k.touched) k.marks.items k.next.items ts) (sym touched)
      (ready_room n (vec_capacity k.touched) k.marks.items k.next.items (ap length marks ∙ length-replicate n Untouched) next room (λ j. ap (λ ms. mark_of ms j) marks ∙ mark_untouched n j)),
  touched,
)

-- ---- a step

first_same : (m l : ℕ → Option ℚ) → ((s : ℕ) → m s ≡ l s) → (s left : ℕ) → first_refusal m s left ≡ first_refusal l s left
first_same m l h s zero = refl
first_same m l h s (suc left) = ap₂ option_or (ap (sum_refusal s) (h s)) (first_same m l h (suc s) left)

module _ (net : Network) (c : List ℚ) (u : List Flow) (state : IsState net c) (old now : Sums) (ready : IsReady net.species old)
    (adds : (s : ℕ) → sum_in now c s ≡ sum_from (change net s) (sum_in old c s) (flows_with net s u)) where
  -- the sums are those of the segment
  pub sums_are : (s : ℕ) → sum_in now c s ≡ sum_of net c u s
  sums_are s = adds s ∙ ap (λ m. sum_from (change net s) (by_mark m (amount old.next.items s) (amount c s)) (flows_with net s u)) (none_marked old.marks.items old.touched.items ready.1 ready.0.listed s)

  pub refused_as : (o : Option StepError) → ((d : List ℚ) → IsNotNegative d → first_refusal (sum_in now d) 1 net.species ≡ o) → sums_refusal net c u ≡ o
  refused_as o h = sym (first_same (sum_in now c) (sum_of net c u) sums_are 1 net.species) ∙ h c state.not_negative

  pub going : sums_refusal net c u ≡ None → (s : ℕ) → 1 ≤ s → s ≤ length c → (b : ℚ) × (sum_in now c s ≡ Some b) × (0ℚ ≤ℚ b)
  going h s low high =
      let k = sum_there s (sum_of net c u s) (none_refused (sum_of net c u) 1 net.species h s low (omega (arith, high, state.long))) in
      (k.0, sums_are s ∙ k.1, k.2)

  pub settled_sums : sums_refusal net c u ≡ None → (d : List ℚ) → ((s : ℕ) → sum_in now c s ≡ Some (amount d s)) → AreSums net c u (net.species + 1) d
  settled_sums h d e j low high =
      let k = going h j low (omega (arith, high, state.long)) in
      let same : Some k.0 ≡ Some (amount d j) = sym k.1 ∙ e j in
      let b : k.0 ≡ amount d j = cc same in
      (sym (sums_are j) ∙ e j, subst (λ x. 0ℚ ≤ℚ x) b k.2)
