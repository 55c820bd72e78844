-- What refuses a step is its cause, and only that: flow by flow, and then species by species.
use Rattle.std.proofs.Common.{◌≡◌, ◌≢◌, ℕ, zero, suc, ◌+◌, ◌<◌, ◌≤◌, ◌==◌, if◌then◌else◌, Bool, true, false, List, [], ◌∷◌, ◌++◌, length, Option, Some, None, refl, sym, ◌∙◌, ap, ap₂, subst, ⊎_elim, arith, nat_lt}
use Rattle.std.proofs.lemmas.List.Elements.{All-nil, All-cons, All-head, All-tail}
use Rattle.std.specs.List.{All}
use Rattle.std.specs.Option.{option_or, option_map}
use Rattle.std.proofs.lemmas.Bool.{cases_eq}
use Rattle.crn_fraction.proofs.Linear.{not_<ℚ}
use Rattle.crn_fraction.specs.Rational.{ℚ, 0ℚ, ◌≤ℚ◌, ◌<ℚ◌}
use Rattle.crn_net.proofs.Shape.{count_of_other, count_of_same, count_of_in_range}
use Rattle.crn_net.specs.Causes.{IsFirst}
use Rattle.crn_net.specs.Network.{Network, Part, AreFlows, AreParts, IsLegal, IsNetwork, amount, after, count_of, numbered, taken}
use Rattle.crn_net.specs.Totals.{change, added}
use Rattle.crn_net.specs.declared.Flow.{Flow}
use Rattle.crn_segments.proofs.Least.{first_in}
use Rattle.crn_segments.proofs.Refusals.{flow_without_reaction, flow_with_reaction}
use Rattle.crn_segments.proofs.Runs.{sum_there}
use Rattle.crn_segments.proofs.SignLaws.{positive_is, not_positive_is, not_negative_is, negative_is, is_positive_ℚ_cases, is_negative_ℚ_cases}
use Rattle.crn_segments.proofs.Steps.{above_or_not, flow_none, flows_exist, flows_none, map_some, none_absent, or_none, or_some, present_all, refused_flows, refused_sums, sum_fits, sum_is_after}
use Rattle.crn_segments.specs.Causes.{MayBegin, ComesTo, IsFirstAbsent, SpeciesGoes, StopsAt, IsStepCause}
use Rattle.crn_segments.specs.Fits.{SpeciesFits, StepFits, flows_with}
use Rattle.crn_segments.specs.Flows.{IsSegment}
use Rattle.crn_segments.specs.Progress.{Progress}
use Rattle.crn_segments.specs.Signs.{is_positive_ℚ, is_negative_ℚ}
use Rattle.crn_segments.specs.Step.{first_absent, flow_refusal, flows_refusal, sum_of, sum_refusal, first_refusal, sums_refusal, step_refusal}
use Rattle.crn_segments.specs.declared.StepError.{StepError}
use Rattle.crn_segments.specs.declared.StepError.TheVariants.{NoReaction, NotPresent, TooBig, TakesMore}

-- ---- the least reactant that is absent

record AbsentAmong (m : ℕ → ℚ) (ps : List Part) (s : ℕ) : Type 0 where
  pub reactant : 0 < count_of ps s
  pub absent : m s ≤ℚ 0ℚ
  pub earlier : (t : ℕ) → t < s → 0 < count_of ps t → 0ℚ <ℚ m t

pub more_counted : (p : Part) (ps : List Part) (t : ℕ) → 0 < count_of ps t → 0 < count_of (p ∷ ps) t
more_counted p ps t h = let more : 0 < (if p.species == t then p.count else 0) + count_of ps t = omega arith in more

absent_among : (low n : ℕ) (m : ℕ → ℚ) (ps : List Part) (s : ℕ) → AreParts low n ps → first_absent m ps ≡ Some s → AbsentAmong m ps s
absent_among low n m [] s ok h = absurd (cc h)
absent_among low n m (p ∷ ps) s ok h =
    let either : Bool → Option ℕ = λ b. if b then first_absent m ps else Some p.species in
    ⊎_elim (λ (k : (is_positive_ℚ (m p.species) ≡ true) × (0ℚ <ℚ m p.species)).
    let rest : AbsentAmong m ps s = absent_among p.species n m ps s ok.3 (sym (ap either k.0) ∙ h) in
    record {
      reactant = more_counted p ps s rest.reactant;
      absent = rest.absent;
      earlier = λ t less some. ⊎_elim (λ (e : p.species ≡ t). subst (λ x. 0ℚ <ℚ m x) e k.1)
          (λ (o : p.species ≢ t). rest.earlier t less (subst (λ x. 0 < x) (count_of_other p ps t o) some)) (cases_eq p.species t);
    })
    (λ (k : (is_positive_ℚ (m p.species) ≡ false) × (m p.species ≤ℚ 0ℚ)).
    let this : Some p.species ≡ Some s = sym (ap either k.0) ∙ h in
    let e : p.species ≡ s = cc this in
    record {
      reactant = subst (λ x. 0 < count_of (p ∷ ps) x) e (subst (λ x. 0 < x) (sym (count_of_same low n p ps ok)) ok.2);
      absent = subst (λ x. m x ≤ℚ 0ℚ) e k.1;
      earlier = λ t less some.
          let apart : p.species ≢ t = λ x. absurd (omega (arith, less, e, x)) in
          let above = count_of_in_range p.species n ps t ok.3 (subst (λ x. 0 < x) (count_of_other p ps t apart) some) in
          absurd (omega (arith, above.0, less, e));
    })
    (is_positive_ℚ_cases (m p.species))

among_absent : (low n : ℕ) (m : ℕ → ℚ) (ps : List Part) (s : ℕ) → AreParts low n ps → AbsentAmong m ps s → first_absent m ps ≡ Some s
among_absent low n m [] s ok a = let none : 0 < 0 = a.reactant in absurd (omega arith)
among_absent low n m (p ∷ ps) s ok a =
    let either : Bool → Option ℕ = λ b. if b then first_absent m ps else Some p.species in
    ⊎_elim (λ (e : p.species ≡ s). ap either (not_positive_is (m p.species) (subst (λ x. m x ≤ℚ 0ℚ) (sym e) a.absent)) ∙ ap Some e)
    (λ (o : p.species ≢ s).
    let some : 0 < count_of ps s = subst (λ x. 0 < x) (count_of_other p ps s o) a.reactant in
    let above = count_of_in_range p.species n ps s ok.3 some in
    let here : 0ℚ <ℚ m p.species = a.earlier p.species above.0 (subst (λ x. 0 < x) (sym (count_of_same low n p ps ok)) ok.2) in
    ap either (positive_is (m p.species) here)
    ∙ among_absent p.species n m ps s ok.3 (record { reactant = some; absent = a.absent; earlier = λ t less k. a.earlier t less (more_counted p ps t k) }))
    (cases_eq p.species s)

-- ---- one flow

-- a flow is refused for this
abbrev FlowCause : Network → List ℚ → Flow → StepError → Type 0
FlowCause net c f (NoReaction r) = (f.reaction ≡ r) × (length net.reactions < r)
FlowCause net c f (NotPresent r s) = (f.reaction ≡ r) × (r ≤ length net.reactions) × IsFirstAbsent net r c s
FlowCause net c f (TooBig s) = ⊥
FlowCause net c f (TakesMore s) = ⊥

takes_parts : (net : Network) → IsNetwork net → (r : ℕ) → r ≤ length net.reactions → AreParts 0 net.species (numbered net.reactions r).takes
takes_parts net ok zero h = tt
takes_parts net ok (suc i) h = (ok.reactions (suc i) (omega arith) h).takes

first_is_absent : (net : Network) → IsNetwork net → (c : List ℚ) (r s : ℕ) → r ≤ length net.reactions → first_absent (amount c) (numbered net.reactions r).takes ≡ Some s → IsFirstAbsent net r c s
unfolding taken
first_is_absent net ok c r s high h =
    let a = absent_among 0 net.species (amount c) (numbered net.reactions r).takes s (takes_parts net ok r high) h in
    record { reactant = a.reactant; absent = a.absent; earlier = a.earlier }

absent_is_first : (net : Network) → IsNetwork net → (c : List ℚ) (r s : ℕ) → r ≤ length net.reactions → IsFirstAbsent net r c s → first_absent (amount c) (numbered net.reactions r).takes ≡ Some s
unfolding taken
absent_is_first net ok c r s high a =
    among_absent 0 net.species (amount c) (numbered net.reactions r).takes s (takes_parts net ok r high) (record { reactant = a.reactant; absent = a.absent; earlier = a.earlier })

flow_cause : (net : Network) → IsNetwork net → (c : List ℚ) (f : Flow) (e : StepError) → flow_refusal net c f ≡ Some e → FlowCause net c f e
flow_cause net ok c f e h =
    ⊎_elim (λ (k : (nat_lt (length net.reactions) f.reaction ≡ true) × (length net.reactions < f.reaction)).
    let this : Some (NoReaction f.reaction) ≡ Some e = sym (flow_without_reaction net c f k.1) ∙ h in
    let same : NoReaction f.reaction ≡ e = cc this in
    subst (FlowCause net c f) same (refl, k.1))
    (λ (k : (nat_lt (length net.reactions) f.reaction ≡ false) × (f.reaction ≤ length net.reactions)).
    let there = map_some (λ s. NotPresent f.reaction s) (first_absent (amount c) (numbered net.reactions f.reaction).takes) e (sym (flow_with_reaction net c f k.1) ∙ h) in
    subst (FlowCause net c f) there.2 (refl, k.1, first_is_absent net ok c f.reaction there.0 k.1 there.1))
    (above_or_not (length net.reactions) f.reaction)

cause_of_flow : (net : Network) → IsNetwork net → (c : List ℚ) (f : Flow) (e : StepError) → FlowCause net c f e → flow_refusal net c f ≡ Some e
cause_of_flow net ok c f (NoReaction r) h =
    flow_without_reaction net c f (subst (λ x. length net.reactions < x) (sym h.0) h.1) ∙ ap (λ x. Some (NoReaction x)) h.0
cause_of_flow net ok c f (NotPresent r s) h =
    let high : f.reaction ≤ length net.reactions = subst (λ x. x ≤ length net.reactions) (sym h.0) h.1 in
    flow_with_reaction net c f high
    ∙ ap (λ o. option_map (λ s. NotPresent f.reaction s) o) (absent_is_first net ok c f.reaction s high (subst (λ x. IsFirstAbsent net x c s) (sym h.0) h.2))
    ∙ ap (λ x. Some (NotPresent x s)) h.0
cause_of_flow net ok c f (TooBig s) h = absurd h
cause_of_flow net ok c f (TakesMore s) h = absurd h

begins : (net : Network) (c : List ℚ) (f : Flow) → flow_refusal net c f ≡ None → MayBegin net c f
unfolding taken
begins net c f h =
    let k = flow_none net c f h in
    record { exists = k.0; reactants = λ s t. present_all (amount c) (numbered net.reactions f.reaction).takes s k.1 t }

begun : (net : Network) → IsNetwork net → (c : List ℚ) (f : Flow) → MayBegin net c f → flow_refusal net c f ≡ None
unfolding taken
begun net ok c f b =
    flow_with_reaction net c f b.exists
    ∙ ap (λ o. option_map (λ s. NotPresent f.reaction s) o)
    (none_absent 0 net.species (amount c) (numbered net.reactions f.reaction).takes (takes_parts net ok f.reaction b.exists) b.reactants)

-- ---- flows

pub all_begin : (net : Network) (c : List ℚ) (u : List Flow) → flows_refusal net c u ≡ None → All (MayBegin net c) u
all_begin net c [] h = All-nil (MayBegin net c)
all_begin net c (f ∷ fs) h =
    let k = or_none (flow_refusal net c f) (flows_refusal net c fs) h in
    All-cons (MayBegin net c) f fs (begins net c f k.0) (all_begin net c fs k.1)

all_begun : (net : Network) → IsNetwork net → (c : List ℚ) (u : List Flow) → All (MayBegin net c) u → flows_refusal net c u ≡ None
all_begun net ok c [] h = refl
all_begun net ok c (f ∷ fs) h =
    ap₂ option_or (begun net ok c f (All-head (MayBegin net c) f fs h)) (all_begun net ok c fs (All-tail (MayBegin net c) f fs h))

-- the flows stop at one of them, for this
record FlowStops (net : Network) (c : List ℚ) (u : List Flow) (e : StepError) : Type 0 where
  pub before : List Flow
  pub flow : Flow
  pub later : List Flow
  pub split : u ≡ before ++ flow ∷ later
  pub begin : All (MayBegin net c) before
  pub cause : FlowCause net c flow e

flow_stops : (net : Network) → IsNetwork net → (c : List ℚ) (u : List Flow) (e : StepError) → flows_refusal net c u ≡ Some e → FlowStops net c u e
flow_stops net ok c [] e h = absurd (cc h)
flow_stops net ok c (f ∷ fs) e h =
    ⊎_elim (λ (k : flow_refusal net c f ≡ Some e). record { before = []; flow = f; later = fs; split = refl; begin = All-nil (MayBegin net c); cause = flow_cause net ok c f e k })
    (λ (k : (flow_refusal net c f ≡ None) × (flows_refusal net c fs ≡ Some e)).
    let rest : FlowStops net c fs e = flow_stops net ok c fs e k.1 in
    record {
      before = f ∷ rest.before;
      flow = rest.flow;
      later = rest.later;
      split = ap (λ xs. f ∷ xs) rest.split;
      begin = All-cons (MayBegin net c) f rest.before (begins net c f k.0) rest.begin;
      cause = rest.cause;
    })
    (or_some (flow_refusal net c f) (flows_refusal net c fs) e h)

stops_at_flow : (net : Network) → IsNetwork net → (c : List ℚ) (before : List Flow) (f : Flow) (later : List Flow) (e : StepError) → All (MayBegin net c) before → FlowCause net c f e →
    flows_refusal net c (before ++ f ∷ later) ≡ Some e
stops_at_flow net ok c [] f later e h k = ap (λ o. option_or o (flows_refusal net c later)) (cause_of_flow net ok c f e k)
stops_at_flow net ok c (g ∷ gs) f later e h k =
    ap₂ option_or (begun net ok c g (All-head (MayBegin net c) g gs h)) (stops_at_flow net ok c gs f later e (All-tail (MayBegin net c) g gs h) k)

-- ---- sums

first_some : (m : ℕ → Option ℚ) (s left : ℕ) (e : StepError) → first_refusal m s left ≡ Some e →
    (t : ℕ) × (s ≤ t) × (t < s + left) × ((j : ℕ) → s ≤ j → j < t → sum_refusal j (m j) ≡ None) × (sum_refusal t (m t) ≡ Some e)
first_some m s zero e h = absurd (cc h)
first_some m s (suc left) e h =
    ⊎_elim (λ (k : sum_refusal s (m s) ≡ Some e). (s, omega arith, omega arith, λ j low high. absurd (omega arith), k))
    (λ (k : (sum_refusal s (m s) ≡ None) × (first_refusal m (suc s) left ≡ Some e)).
    let rest = first_some m (suc s) left e k.1 in (
      rest.0,
      omega (arith, rest.1),
      omega (arith, rest.2),
      λ j low high. ⊎_elim (λ (x : j ≡ s). subst (λ i. sum_refusal i (m i) ≡ None) (sym x) k.0) (λ (l : s < j). rest.3 j (omega arith) high) (grind arith),
      rest.4,
    ))
    (or_some (sum_refusal s (m s)) (first_refusal m (suc s) left) e h)

-- the sum of species s is refused for this
abbrev SumCause : Network → List ℚ → List Flow → ℕ → StepError → Type 0
SumCause net c u s (NoReaction r) = ⊥
SumCause net c u s (NotPresent r t) = ⊥
SumCause net c u s (TooBig t) = (s ≡ t) × (SpeciesFits net c u s → ⊥)
SumCause net c u s (TakesMore t) = (s ≡ t) × SpeciesFits net c u s × (amount (after net c u) s <ℚ 0ℚ)

module _ (net : Network) (c : List ℚ) (u : List Flow) (flows : AreFlows (length net.reactions) u) (s : ℕ) (low : 1 ≤ s) (high : s ≤ net.species) where
  goes : sum_refusal s (sum_of net c u s) ≡ None → SpeciesGoes net c u s
  goes h =
      let k = sum_there s (sum_of net c u s) h in
      let a = sum_is_after net c u s k.0 flows low high k.1 in
      record { fits = a.1; enough = subst (λ x. 0ℚ ≤ℚ x) (sym a.0) k.2 }

  -- a sum that fits is what is there after the step
  sum_left : SpeciesFits net c u s → sum_of net c u s ≡ Some (amount (after net c u) s)
  sum_left h =
      let e = sum_fits (change net s) (amount c s) (flows_with net s u) h in
      e ∙ ap Some (sym (sum_is_after net c u s (added (amount c s) (change net s) (flows_with net s u)) flows low high e).0)

  refused_by : Bool → Option StepError
  refused_by b = if b then Some (TakesMore s) else None

  gone : SpeciesGoes net c u s → sum_refusal s (sum_of net c u s) ≡ None
  unfolding refused_by
  gone g = ap (sum_refusal s) (sum_left g.fits) ∙ ap refused_by (not_negative_is (amount (after net c u) s) g.enough)

  sum_cause_of : (o : Option ℚ) (e : StepError) → sum_of net c u s ≡ o → sum_refusal s o ≡ Some e → SumCause net c u s e
  unfolding refused_by
  sum_cause_of None e is h =
      let same : TooBig s ≡ e = cc h in
      subst (SumCause net c u s) same (refl, λ fits. let k : Some (amount (after net c u) s) ≡ None = sym (sum_left fits) ∙ is in absurd (cc k))
  sum_cause_of (Some b) e is h =
      let a = sum_is_after net c u s b flows low high is in
      ⊎_elim (λ (k : (is_negative_ℚ b ≡ true) × (b <ℚ 0ℚ)).
      let this : Some (TakesMore s) ≡ Some e = sym (ap refused_by k.0) ∙ h in
      let same : TakesMore s ≡ e = cc this in
      subst (SumCause net c u s) same (refl, a.1, subst (λ x. x <ℚ 0ℚ) (sym a.0) k.1))
      (λ (k : (is_negative_ℚ b ≡ false) × (0ℚ ≤ℚ b)). let this : None ≡ Some e = sym (ap refused_by k.0) ∙ h in absurd (cc this))
      (is_negative_ℚ_cases b)

  sum_cause : (e : StepError) → sum_refusal s (sum_of net c u s) ≡ Some e → SumCause net c u s e
  sum_cause e h = sum_cause_of (sum_of net c u s) e refl h

  too_big : (o : Option ℚ) → sum_of net c u s ≡ o → (SpeciesFits net c u s → ⊥) → sum_refusal s o ≡ Some (TooBig s)
  too_big None is h = refl
  too_big (Some b) is h = absurd (h (sum_is_after net c u s b flows low high is).1)

  takes_more : SpeciesFits net c u s → amount (after net c u) s <ℚ 0ℚ → sum_refusal s (sum_of net c u s) ≡ Some (TakesMore s)
  unfolding refused_by
  takes_more h k = ap (sum_refusal s) (sum_left h) ∙ ap refused_by (negative_is (amount (after net c u) s) k)

-- the sums stop at the first species that does not go
module _ (net : Network) (c : List ℚ) (u : List Flow) (flows : AreFlows (length net.reactions) u) where
  sums_stop : (t : ℕ) (e : StepError) → IsFirst (SpeciesGoes net c u) net.species t → sum_refusal t (sum_of net c u t) ≡ Some e → sums_refusal net c u ≡ Some e
  sums_stop t e first h =
      first_in (sum_of net c u) 1 net.species t e first.low (omega (arith, first.high))
      (λ j low less. gone net c u flows j low (omega (arith, less, first.high)) (first.earlier j low less)) h

  not_here : (s : ℕ) (e : StepError) → SumCause net c u s e → SpeciesGoes net c u s → ⊥
  not_here s (NoReaction r) k g = k
  not_here s (NotPresent r t) k g = k
  not_here s (TooBig t) k g = k.1 g.fits
  not_here s (TakesMore t) k g = not_<ℚ _ _ g.enough k.2

  stops_at : All (MayBegin net c) u → (t : ℕ) (e : StepError) → 1 ≤ t → t ≤ net.species → ((j : ℕ) → 1 ≤ j → j < t → sum_refusal j (sum_of net c u j) ≡ None) → SumCause net c u t e → StopsAt net c u t
  stops_at begin t e low high below k = record {
    begin = begin;
    first = record {
      low = low;
      high = high;
      earlier = λ j a b. goes net c u flows j a (omega (arith, b, high)) (below j a b);
      here = not_here t e k;
    };
  }

-- ---- both

from_flows : (net : Network) (c : List ℚ) (u : List Flow) (e : StepError) → FlowStops net c u e → IsStepCause net c u e
from_flows net c u (NoReaction r) k = (record { before = k.before; flow = k.flow; later = k.later; split = k.split; number = k.cause.0; begin = k.begin }, k.cause.1)
from_flows net c u (NotPresent r s) k = (record { before = k.before; flow = k.flow; later = k.later; split = k.split; number = k.cause.0; begin = k.begin }, k.cause.1, k.cause.2)
from_flows net c u (TooBig s) k = absurd k.cause
from_flows net c u (TakesMore s) k = absurd k.cause

from_sums : (net : Network) (c : List ℚ) (u : List Flow) (t : ℕ) (e : StepError) → StopsAt net c u t → SumCause net c u t e → IsStepCause net c u e
from_sums net c u t (NoReaction r) a k = absurd k
from_sums net c u t (NotPresent r s) a k = absurd k
from_sums net c u t (TooBig s) a k = (subst (StopsAt net c u) k.0 a, subst (λ x. SpeciesFits net c u x → ⊥) k.0 k.1)
from_sums net c u t (TakesMore s) a k =
    (subst (StopsAt net c u) k.0 a, subst (SpeciesFits net c u) k.0 k.1, subst (λ x. amount (after net c u) x <ℚ 0ℚ) k.0 k.2)

-- what refuses a step is its cause
pub refused_step : (net : Network) → IsNetwork net → (c : List ℚ) (u : List Flow) → IsSegment u → (e : StepError) → step_refusal net c u ≡ Some e → IsStepCause net c u e
unfolding step_refusal
refused_step net ok c u seg e h =
    ⊎_elim (λ (k : flows_refusal net c u ≡ Some e). from_flows net c u e (flow_stops net ok c u e k))
    (λ (k : (flows_refusal net c u ≡ None) × (sums_refusal net c u ≡ Some e)).
    let flows : AreFlows (length net.reactions) u = flows_exist net c 0 u seg.ascending k.0 in
    let t = first_some (sum_of net c u) 1 net.species e k.1 in
    let high : t.0 ≤ net.species = omega (arith, t.2) in
    let cause = sum_cause net c u flows t.0 t.1 high e t.4 in
    from_sums net c u t.0 e (stops_at net c u flows (all_begin net c u k.0) t.0 e t.1 high t.3 cause) cause)
    (or_some (flows_refusal net c u) (sums_refusal net c u) e h)

flows_refuse : (net : Network) → IsNetwork net → (c : List ℚ) (u : List Flow) (r : ℕ) (e : StepError) → (k : ComesTo net c u r) → FlowCause net c k.flow e → step_refusal net c u ≡ Some e
flows_refuse net ok c u r e k cause =
    refused_flows net c u e (ap (flows_refusal net c) k.split ∙ stops_at_flow net ok c k.before k.flow k.later e k.begin cause)

sums_refuse : (net : Network) → IsNetwork net → (c : List ℚ) (u : List Flow) → IsSegment u → (s : ℕ) (e : StepError) → StopsAt net c u s →
    (AreFlows (length net.reactions) u → sum_refusal s (sum_of net c u s) ≡ Some e) → step_refusal net c u ≡ Some e
sums_refuse net ok c u seg s e k here =
    let none : flows_refusal net c u ≡ None = all_begun net ok c u k.begin in
    let flows : AreFlows (length net.reactions) u = flows_exist net c 0 u seg.ascending none in
    refused_sums net c u (Some e) none (sums_stop net c u flows s e k.first (here flows))

-- and each cause refuses it
pub step_refused : (net : Network) → IsNetwork net → (c : List ℚ) (u : List Flow) → IsSegment u → (e : StepError) → IsStepCause net c u e → step_refusal net c u ≡ Some e
step_refused net ok c u seg (NoReaction r) h = flows_refuse net ok c u r (NoReaction r) h.0 (h.0.number, h.1)
step_refused net ok c u seg (NotPresent r s) h = flows_refuse net ok c u r (NotPresent r s) h.0 (h.0.number, h.1, h.2)
step_refused net ok c u seg (TooBig s) h =
    sums_refuse net ok c u seg s (TooBig s) h.0 (λ flows. too_big net c u flows s h.0.first.low h.0.first.high (sum_of net c u s) refl h.1)
step_refused net ok c u seg (TakesMore s) h =
    sums_refuse net ok c u seg s (TakesMore s) h.0 (λ flows. takes_more net c u flows s h.0.first.low h.0.first.high h.1 h.2)

-- as a replay shows it
pub shown_cause : (p : Progress) (net : Network) (c : List ℚ) → record { network = net; state = c } ≡ p → (u : List Flow) → IsNetwork net → IsSegment u → (e : StepError) → step_refusal net c u ≡ Some e →
    IsStepCause p.network p.state u e
shown_cause p net c same u ok seg e h = subst (λ (q : Progress). IsStepCause q.network q.state u e) same (refused_step net ok c u seg e h)

-- ---- what a cause says of the segment

-- no flow stops a legal segment
legal_begins : (net : Network) → IsNetwork net → (c : List ℚ) (u : List Flow) → IsSegment u → IsLegal net c u → (r : ℕ) (e : StepError) → (k : ComesTo net c u r) → FlowCause net c k.flow e → ⊥
legal_begins net ok c u seg legal r e k cause =
    let stops : flows_refusal net c u ≡ Some e = ap (flows_refusal net c) k.split ∙ stops_at_flow net ok c k.before k.flow k.later e k.begin cause in
    let wrong : None ≡ Some e = sym (flows_none net ok c 0 u seg.ascending legal.flows legal.applicable) ∙ stops in
    cc wrong

-- a cause that is no number that is too big makes it illegal
pub illegal_cause : (net : Network) → IsNetwork net → (c : List ℚ) (u : List Flow) → IsSegment u → (e : StepError) → IsStepCause net c u e → ((s : ℕ) → e ≢ TooBig s) → IsLegal net c u → ⊥
illegal_cause net ok c u seg (NoReaction r) h other legal = legal_begins net ok c u seg legal r (NoReaction r) h.0 (h.0.number, h.1)
illegal_cause net ok c u seg (NotPresent r s) h other legal = legal_begins net ok c u seg legal r (NotPresent r s) h.0 (h.0.number, h.1, h.2)
illegal_cause net ok c u seg (TooBig s) h other legal = other s refl
illegal_cause net ok c u seg (TakesMore s) h other legal = not_<ℚ 0ℚ (amount (after net c u) s) (legal.enough s) h.2

-- and one that is too big leaves a number that does not fit
pub unfit_cause : (net : Network) (c : List ℚ) (u : List Flow) (s : ℕ) → IsStepCause net c u (TooBig s) → StepFits net c u → ⊥
unfit_cause net c u s h fits = h.1 (fits s h.0.first.low h.0.first.high)
