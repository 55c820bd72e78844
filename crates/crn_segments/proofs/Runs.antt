-- Steps that all answer Ok are a run.
use Rattle.std.proofs.Common.{◌≡◌, ℕ, zero, suc, ◌+◌, ◌<◌, ◌≤◌, if◌then◌else◌, true, false, List, [], ◌∷◌, ◌++◌, length, Option, Some, None, refl, sym, ◌∙◌, ap, subst, ⊎_elim, arith}
use Rattle.crn_fraction.specs.Rational.{ℚ, 0ℚ, ◌≤ℚ◌, ◌<ℚ◌}
use Rattle.crn_net.specs.Network.{Network, Run, IsLegal, IsNetwork, AreFlows, after, after_all, amount}
use Rattle.crn_net.specs.declared.Flow.{Flow}
use Rattle.crn_segments.proofs.SignLaws.{is_negative_ℚ_cases}
use Rattle.crn_segments.proofs.Steps.{AreSums, or_none, refusal_none, flows_exist, sum_is_after, went_legal, legal_goes}
use Rattle.crn_segments.specs.Fits.{StepFits}
use Rattle.crn_segments.specs.Flows.{IsSegment}
use Rattle.crn_segments.specs.Signs.{is_negative_ℚ}
use Rattle.crn_segments.specs.Step.{sums_refusal, first_refusal, sum_refusal, sum_of, step_refusal}
use Rattle.crn_segments.specs.Steps.{AreSegments, StepsGo, StepsFit}
use Rattle.crn_segments.specs.declared.StepError.TheVariants.{TakesMore}

-- a sum that nothing refuses is a number, and not negative
pub sum_there : (s : ℕ) (o : Option ℚ) → sum_refusal s o ≡ None → (b : ℚ) × (o ≡ Some b) × (0ℚ ≤ℚ b)
sum_there s None h = absurd (cc)
sum_there s (Some b) h =
    ⊎_elim (λ (k : (is_negative_ℚ b ≡ true) × (b <ℚ 0ℚ)). let e : Some (TakesMore s) ≡ None = sym (ap (λ t. if t then Some (TakesMore s) else None) k.0) ∙ h in absurd (cc e))
    (λ (k : (is_negative_ℚ b ≡ false) × (0ℚ ≤ℚ b)). (b, refl, k.1)) (is_negative_ℚ_cases b)

pub none_refused : (m : ℕ → Option ℚ) (s left : ℕ) → first_refusal m s left ≡ None → (j : ℕ) → s ≤ j → j < s + left → sum_refusal j (m j) ≡ None
none_refused m s zero h j low high = absurd (omega arith)
none_refused m s (suc left) h j low high =
    let n = or_none (sum_refusal s (m s)) (first_refusal m (suc s) left) h in
    ⊎_elim (λ (e : j ≡ s). subst (λ i. sum_refusal i (m i) ≡ None) (sym e) n.0) (λ (l : s < j). none_refused m (suc s) left n.1 j (omega arith) (omega arith)) (grind arith)

sums_there : (net : Network) (c : List ℚ) (u : List Flow) → AreFlows (length net.reactions) u → sums_refusal net c u ≡ None → AreSums net c u (net.species + 1) (after net c u)
sums_there net c u flows h j low high =
    let k = sum_there j (sum_of net c u j) (none_refused (sum_of net c u) 1 net.species h j low (omega arith)) in
    let e : amount (after net c u) j ≡ k.0 = (sum_is_after net c u j k.0 flows low (omega arith) k.1).0 in
    (k.1 ∙ ap Some (sym e), subst (λ x. 0ℚ ≤ℚ x) (sym e) k.2)

-- where nothing refuses a step, its segment is legal and it fits
pub goes_legal : (net : Network) (c : List ℚ) (u : List Flow) → IsSegment u → step_refusal net c u ≡ None → IsLegal net c u × StepFits net c u
goes_legal net c u seg h =
    let n = refusal_none net c u h in
    let flows : AreFlows (length net.reactions) u = flows_exist net c 0 u seg.ascending n.0 in
    went_legal net c (after net c u) u seg n.0 (sums_there net c u flows n.1)

pub steps_run : (net : Network) (c : List ℚ) (us : List (List Flow)) (d : List ℚ) → AreSegments us → StepsGo net c us d → Run net c us d × StepsFit net c us
steps_run net c [] d segs h = (h, tt)
steps_run net c (u ∷ us) d segs h =
    let here = goes_legal net c u segs.0 h.0 in
    let rest = steps_run net (after net c u) us d segs.1 h.1 in
    ((here.0, rest.0), (here.1, rest.1))

pub run_steps : (net : Network) → IsNetwork net → (c : List ℚ) (us : List (List Flow)) (d : List ℚ) → AreSegments us → Run net c us d × StepsFit net c us → StepsGo net c us d
run_steps net ok c [] d segs h = h.0
run_steps net ok c (u ∷ us) d segs h = (legal_goes net c u ok segs.0 h.0.0 h.1.0, run_steps net ok (after net c u) us d segs.1 (h.0.1, h.1.1))

-- ---- steps one after another

-- they lead to the state after their segments
pub goes_after : (net : Network) (a : List ℚ) (us : List (List Flow)) (c : List ℚ) → StepsGo net a us c → c ≡ after_all net a us
goes_after net a [] c goes = goes
goes_after net a (u ∷ us) c goes = goes_after net (after net a u) us c goes.1

-- steps from a to c, and then further ones
pub goes_append : (net : Network) (a : List ℚ) (us : List (List Flow)) (c : List ℚ) (vs : List (List Flow)) (d : List ℚ) → StepsGo net a us c → StepsGo net c vs d → StepsGo net a (us ++ vs) d
goes_append net a [] c vs d goes more = subst (λ s. StepsGo net s vs d) goes more
goes_append net a (u ∷ us) c vs d goes more = (goes.0, goes_append net (after net a u) us c vs d goes.1 more)

pub segments_append : (us vs : List (List Flow)) → AreSegments us → AreSegments vs → AreSegments (us ++ vs)
segments_append [] vs all more = more
segments_append (u ∷ us) vs all more = (all.0, segments_append us vs all.1 more)
