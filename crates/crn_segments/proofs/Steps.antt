-- A step is refused exactly where its segment is not legal or it does not fit.
use Rattle.std.proofs.Common.{◌≡◌, ◌≢◌, ℕ, zero, suc, ◌+◌, ◌<◌, ◌≤◌, ◌&&◌, ◌||◌, ◌==◌, cond, pos, if◌then◌else◌, Bool, true, false, List, [], ◌∷◌, length, Option, Some, None, refl, sym, ◌∙◌, ap, ap₂, subst, ◌⊎◌, inl, inr, ⊎_elim, arith, nat_lt, ext_get_or}
use Rattle.std.proofs.lemmas.Bool.Decides.{nat_tests}
use Rattle.std.proofs.lemmas.List.FromFn.{length-map-range_with_len}
use Rattle.std.specs.Option.{option_or, option_map}
use Rattle.std.proofs.lemmas.Bool.{cases_eq, le-ltb}
use Rattle.crn_fraction.proofs.Linear.{not_<ℚ, <ℚ-≤ℚ_trans, +ℚ-≤ℚ_left, +ℚ-≤ℚ}
use Rattle.crn_fraction.proofs.Order.{≤ℚ_refl, ≤ℚ_of_<ℚ}
use Rattle.crn_fraction.proofs.Ring.{+ℚ-zero, zero-+ℚ, zero-*ℚ, sub_ℚ-self}
use Rattle.crn_fraction.specs.Frac.{IsFrac}
use Rattle.crn_fraction.specs.Rational.{ℚ, 0ℚ, whole, ◌+ℚ◌, ◌-ℚ◌, ◌*ℚ◌, ◌≤ℚ◌, ◌<ℚ◌}
use Rattle.crn_net.proofs.Balance.{amount-outside, flux_not_negative, flux_if}
use Rattle.crn_net.proofs.Flows.{amount-added}
use Rattle.crn_net.proofs.Shape.{count_of_other, count_of_same}
use Rattle.crn_net.specs.Network.{Network, Part, amount, after, numbered, taken, given, count_of, flux_of, AreFlows, AreParts, IsApplicable, IsLegal, IsNetwork}
use Rattle.crn_net.specs.Totals.{change, added}
use Rattle.crn_net.specs.declared.Flow.{Flow}
use Rattle.crn_segments.proofs.SignLaws.{positive_is, not_negative_is, frac_is, is_frac_cases, is_positive_ℚ_cases}
use Rattle.crn_segments.specs.Progress.{Progress}
use Rattle.crn_segments.specs.Flows.{AreAscending, IsSegment}
use Rattle.crn_segments.specs.Signs.{is_positive_ℚ, is_frac}
use Rattle.crn_segments.specs.Step.{first_absent, flow_refusal, flows_refusal, fitting_sum, sum_of, sum_refusal, first_refusal, sums_refusal, step_refusal}
use Rattle.crn_segments.specs.Fits.{SumFits, StepFits, flows_with, is_on_side}
use Rattle.crn_segments.specs.declared.StepError.{StepError}
use Rattle.crn_segments.specs.declared.StepError.TheVariants.{NoReaction, NotPresent, TakesMore}

-- ---- the first refusal

pub or_none : {T : Type 0} (a b : Option T) → option_or a b ≡ None → (a ≡ None) × (b ≡ None)
or_none None b h = (refl, h)
or_none (Some x) b h = absurd (cc)

pub or_some : {T : Type 0} (a b : Option T) (x : T) → option_or a b ≡ Some x → (a ≡ Some x) ⊎ ((a ≡ None) × (b ≡ Some x))
or_some None b x h = inr (refl, h)
or_some (Some y) b x h = inl h

map_none : {T U : Type 0} (f : T → U) (o : Option T) → option_map f o ≡ None → o ≡ None
map_none f None h = refl
map_none f (Some x) h = absurd (cc)

pub map_some : {T U : Type 0} (f : T → U) (o : Option T) (x : U) → option_map f o ≡ Some x → (t : T) × (o ≡ Some t) × (f t ≡ x)
map_some f None x h = absurd (cc h)
map_some f (Some t) x h = (t, refl, let e : f t ≡ x = cc h in e)

pub refused_flows : (net : Network) (c : List ℚ) (u : List Flow) (x : StepError) → flows_refusal net c u ≡ Some x → step_refusal net c u ≡ Some x
unfolding step_refusal
refused_flows net c u x h = ap (λ o. option_or o (sums_refusal net c u)) h

pub refused_sums : (net : Network) (c : List ℚ) (u : List Flow) (o : Option StepError) → flows_refusal net c u ≡ None → sums_refusal net c u ≡ o → step_refusal net c u ≡ o
unfolding step_refusal
refused_sums net c u o h k = ap₂ option_or h k

pub refusal_none : (net : Network) (c : List ℚ) (u : List Flow) → step_refusal net c u ≡ None → (flows_refusal net c u ≡ None) × (sums_refusal net c u ≡ None)
unfolding step_refusal
refusal_none net c u h = or_none (flows_refusal net c u) (sums_refusal net c u) h

-- ---- flows

pub above_or_not : (n r : ℕ) → ((nat_lt n r ≡ true) × (n < r)) ⊎ ((nat_lt n r ≡ false) × (r ≤ n))
above_or_not n r = grind (arith, nat_tests)

pub flow_none : (net : Network) (c : List ℚ) (f : Flow) → flow_refusal net c f ≡ None → (f.reaction ≤ length net.reactions) × (first_absent (amount c) (numbered net.reactions f.reaction).takes ≡ None)
flow_none net c f h =
    let either : Bool → Option StepError = λ b. if b then Some (NoReaction f.reaction) else option_map (λ s. NotPresent f.reaction s) (first_absent (amount c) (numbered net.reactions f.reaction).takes) in
    ⊎_elim (λ (k : (nat_lt (length net.reactions) f.reaction ≡ true) × (length net.reactions < f.reaction)).
    let e : Some (NoReaction f.reaction) ≡ None = sym (ap either k.0) ∙ h in absurd (cc e))
    (λ (k : (nat_lt (length net.reactions) f.reaction ≡ false) × (f.reaction ≤ length net.reactions)). (k.1, map_none _ _ (sym (ap either k.0) ∙ h)))
    (above_or_not (length net.reactions) f.reaction)

pub flows_exist : (net : Network) (c : List ℚ) (low : ℕ) (u : List Flow) → AreAscending low u → flows_refusal net c u ≡ None → AreFlows (length net.reactions) u
flows_exist net c low [] h k = tt
flows_exist net c low (f ∷ fs) h k =
    let n = or_none (flow_refusal net c f) (flows_refusal net c fs) k in
    let first : low < f.reaction = h.0 in
    (omega arith, (flow_none net c f n.0).0, ≤ℚ_of_<ℚ _ _ h.1, flows_exist net c f.reaction fs h.2 n.1)

pub present_all : (m : ℕ → ℚ) (ps : List Part) (s : ℕ) → first_absent m ps ≡ None → 0 < count_of ps s → 0ℚ <ℚ m s
present_all m [] s h k = absurd (omega arith)
present_all m (p ∷ ps) s h k =
    let either : Bool → Option ℕ = λ b. if b then first_absent m ps else Some p.species in
    ⊎_elim (λ (t : (is_positive_ℚ (m p.species) ≡ true) × (0ℚ <ℚ m p.species)).
    ⊎_elim (λ (e : p.species ≡ s). subst (λ x. 0ℚ <ℚ m x) e t.1)
    (λ (e : p.species ≢ s). present_all m ps s (sym (ap either t.0) ∙ h) (subst (λ x. 0 < x) (count_of_other p ps s e) k))
    (cases_eq p.species s))
    (λ (t : (is_positive_ℚ (m p.species) ≡ false) × (m p.species ≤ℚ 0ℚ)). let e : Some p.species ≡ None = sym (ap either t.0) ∙ h in absurd (cc e))
    (is_positive_ℚ_cases (m p.species))

flux_same : (f : Flow) (fs : List Flow) → flux_of (f ∷ fs) f.reaction ≡ f.flux +ℚ flux_of fs f.reaction
flux_same f fs = ap (λ b. (if b then f.flux else 0ℚ) +ℚ flux_of fs f.reaction) same
  where
    same : (f.reaction == f.reaction) ≡ true
    same = grind (arith, nat_tests)

flux_other : (f : Flow) (fs : List Flow) (r : ℕ) → f.reaction ≢ r → flux_of (f ∷ fs) r ≡ flux_of fs r
flux_other f fs r h = ap (λ b. (if b then f.flux else 0ℚ) +ℚ flux_of fs r) other ∙ zero-+ℚ _
  where
    other : (f.reaction == r) ≡ false
    other = grind (arith, nat_tests)

pub all_applicable : (net : Network) (c : List ℚ) (u : List Flow) → flows_refusal net c u ≡ None → (r : ℕ) → 0ℚ <ℚ flux_of u r → IsApplicable net r c
unfolding taken
all_applicable net c [] h r k s t = absurd (not_<ℚ _ _ (≤ℚ_refl 0ℚ) k)
all_applicable net c (f ∷ fs) h r k s t =
    let n = or_none (flow_refusal net c f) (flows_refusal net c fs) h in
    ⊎_elim (λ (e : f.reaction ≡ r). present_all (amount c) (numbered net.reactions f.reaction).takes s (flow_none net c f n.0).1 (subst (λ q. 0 < count_of (numbered net.reactions q).takes s) (sym e) t))
    (λ (e : f.reaction ≢ r). all_applicable net c fs n.1 r (subst (λ x. 0ℚ <ℚ x) (flux_other f fs r e) k) s t)
    (cases_eq f.reaction r)

-- the other way round

pub none_absent : (low n : ℕ) (m : ℕ → ℚ) (ps : List Part) → AreParts low n ps → ((s : ℕ) → 0 < count_of ps s → 0ℚ <ℚ m s) → first_absent m ps ≡ None
none_absent low n m [] h k = refl
none_absent low n m (p ∷ ps) h k =
    let here : is_positive_ℚ (m p.species) ≡ true = positive_is _ (k p.species (subst (λ x. 0 < x) (sym (count_of_same low n p ps h)) h.2)) in
    ap (λ b. if b then first_absent m ps else Some p.species) here
    ∙ none_absent p.species n m ps h.3 (λ s t. k s (let more : 0 < (if p.species == s then p.count else 0) + count_of ps s = omega arith in more))

more_left : (a b : ℚ) → 0ℚ <ℚ a → 0ℚ ≤ℚ b → 0ℚ <ℚ a +ℚ b
more_left a b h k = <ℚ-≤ℚ_trans _ _ _ h (subst (λ x. x ≤ℚ a +ℚ b) (+ℚ-zero a) (+ℚ-≤ℚ_left 0ℚ b a k))

more_right : (a b : ℚ) → 0ℚ ≤ℚ a → 0ℚ <ℚ b → 0ℚ <ℚ a +ℚ b
more_right a b h k = <ℚ-≤ℚ_trans _ _ _ k (subst (λ x. x ≤ℚ a +ℚ b) (zero-+ℚ b) (+ℚ-≤ℚ 0ℚ a b h))

pub flows_none : (net : Network) (ok : IsNetwork net) (c : List ℚ) (low : ℕ) (u : List Flow) → AreAscending low u → AreFlows (length net.reactions) u →
    ((r : ℕ) → 0ℚ <ℚ flux_of u r → IsApplicable net r c) → flows_refusal net c u ≡ None
unfolding taken
flows_none net ok c low [] a h k = refl
flows_none net ok c low (f ∷ fs) a h k =
    let there : 0ℚ <ℚ flux_of (f ∷ fs) f.reaction = subst (λ x. 0ℚ <ℚ x) (sym (flux_same f fs)) (more_left _ _ a.1 (flux_not_negative (length net.reactions) fs f.reaction h.3)) in
    let this : first_absent (amount c) (numbered net.reactions f.reaction).takes ≡ None =
    none_absent 0 net.species (amount c) (numbered net.reactions f.reaction).takes (ok.reactions f.reaction h.0 h.1).takes (λ s t. k f.reaction there s t) in
    let first : flow_refusal net c f ≡ None =
    ap (λ b. if b then Some (NoReaction f.reaction) else option_map (λ s. NotPresent f.reaction s) (first_absent (amount c) (numbered net.reactions f.reaction).takes)) (le-ltb _ _ h.1)
    ∙ ap (λ o. option_map (λ s. NotPresent f.reaction s) o) this in
    ap₂ option_or first (flows_none net ok c f.reaction fs a.2 h.3
    (λ r p. k r (more_right _ _ (flux_if (f.reaction == r) f.flux h.2) p)))

-- ---- sums

pub sum_is : (k : ℕ → ℚ) (a b : ℚ) (u : List Flow) → fitting_sum k a u ≡ Some b → (added a k u ≡ b) × SumFits k a u
sum_is k a b [] h = (cc, tt)
sum_is k a b (f ∷ fs) h =
    let p : ℚ = k f.reaction *ℚ f.flux in
    let both : Bool → Bool → Option ℚ = λ x y. if x && y then fitting_sum k (a +ℚ p) fs else None in
    ⊎_elim (λ (x : (is_frac p ≡ true) × IsFrac p).
    ⊎_elim (λ (y : (is_frac (a +ℚ p) ≡ true) × IsFrac (a +ℚ p)).
    let rest = sum_is k (a +ℚ p) b fs (sym (ap₂ both x.0 y.0) ∙ h) in (rest.0, (x.1, y.1, rest.1)))
    (λ (y : (is_frac (a +ℚ p) ≡ false) × (IsFrac (a +ℚ p) → ⊥)). let e : None ≡ Some b = sym (ap₂ both x.0 y.0) ∙ h in absurd (cc e))
    (is_frac_cases (a +ℚ p)))
    (λ (x : (is_frac p ≡ false) × (IsFrac p → ⊥)). let e : None ≡ Some b = sym (ap (λ z. both z (is_frac (a +ℚ p))) x.0) ∙ h in absurd (cc e))
    (is_frac_cases p)

pub sum_fits : (k : ℕ → ℚ) (a : ℚ) (u : List Flow) → SumFits k a u → fitting_sum k a u ≡ Some (added a k u)
sum_fits k a [] h = refl
sum_fits k a (f ∷ fs) h =
    ap₂ (λ x y. if x && y then fitting_sum k (a +ℚ k f.reaction *ℚ f.flux) fs else None) (frac_is _ h.0) (frac_is _ h.1) ∙ sum_fits k (a +ℚ k f.reaction *ℚ f.flux) fs h.2

side_cases : (net : Network) (r s : ℕ) → (is_on_side net r s ≡ true) ⊎ ((is_on_side net r s ≡ false) × (change net s r ≡ 0ℚ))
unfolding is_on_side
side_cases net r s = cases (taken net r s) (given net r s) (whole-minus (given net r s) (taken net r s))
  where
    none : (t g : ℕ) → ((nat_lt 0 t || nat_lt 0 g) ≡ true) ⊎ (((nat_lt 0 t || nat_lt 0 g) ≡ false) × (t ≡ 0) × (g ≡ 0))
    none t g = grind (arith, nat_tests)

    whole-minus : (g t : ℕ) → g ≡ 0 → t ≡ 0 → whole (pos g) -ℚ whole (pos t) ≡ 0ℚ
    whole-minus g t e h = ap₂ (λ x y. whole (pos x) -ℚ whole (pos y)) e h ∙ sub_ℚ-self 0ℚ

    cases : (t g : ℕ) → (g ≡ 0 → t ≡ 0 → whole (pos g) -ℚ whole (pos t) ≡ 0ℚ) → ((nat_lt 0 t || nat_lt 0 g) ≡ true) ⊎ (((nat_lt 0 t || nat_lt 0 g) ≡ false) × (whole (pos g) -ℚ whole (pos t) ≡ 0ℚ))
    cases t g k = ⊎_elim (λ h. inl h) (λ (h : ((nat_lt 0 t || nat_lt 0 g) ≡ false) × (t ≡ 0) × (g ≡ 0)). inr (h.0, k h.2 h.1)) (none t g)

-- a reaction that has the species on no side adds nothing to its sum
added_sides : (net : Network) (s : ℕ) (a : ℚ) (u : List Flow) → added a (change net s) (flows_with net s u) ≡ added a (change net s) u
added_sides net s a [] = refl
added_sides net s a (f ∷ fs) =
    let b : ℚ = a +ℚ change net s f.reaction *ℚ f.flux in
    let with : Bool → List Flow = λ x. cond x (f ∷ flows_with net s fs) (flows_with net s fs) in
    ⊎_elim (λ (t : is_on_side net f.reaction s ≡ true). ap (λ x. added a (change net s) (with x)) t ∙ added_sides net s b fs)
    (λ (t : (is_on_side net f.reaction s ≡ false) × (change net s f.reaction ≡ 0ℚ)).
    let same : a ≡ b = sym (ap (λ x. a +ℚ x *ℚ f.flux) t.1 ∙ ap (λ x. a +ℚ x) (zero-*ℚ f.flux) ∙ +ℚ-zero a) in
    ap (λ x. added a (change net s) (with x)) t.0 ∙ added_sides net s a fs ∙ ap (λ x. added x (change net s) fs) same)
    (side_cases net f.reaction s)

-- the amounts d are the sums of the species below s, and not negative
abbrev pub AreSums : Network → List ℚ → List Flow → ℕ → List ℚ → Type 0
AreSums net c u s d = (j : ℕ) → 1 ≤ j → j < s → (sum_of net c u j ≡ Some (amount d j)) × (0ℚ ≤ℚ amount d j)

-- the sum of a species, where it fits, is its amount after the segment
pub sum_is_after : (net : Network) (c : List ℚ) (u : List Flow) (s : ℕ) (b : ℚ) → AreFlows (length net.reactions) u → 1 ≤ s → s ≤ net.species → sum_of net c u s ≡ Some b →
    (amount (after net c u) s ≡ b) × SumFits (change net s) (amount c s) (flows_with net s u)
sum_is_after net c u s b flows low high e =
    let k = sum_is (change net s) (amount c s) b (flows_with net s u) e in
    (amount-added net c u s flows low high ∙ sym (added_sides net s (amount c s) u) ∙ k.0, k.1)

sums_none : (net : Network) (c : List ℚ) (u : List Flow) (s left : ℕ) → 1 ≤ s → s + left ≡ net.species + 1 → StepFits net c u → ((j : ℕ) → 1 ≤ j → j ≤ net.species → 0ℚ ≤ℚ added (amount c j) (change net j) u) →
    first_refusal (sum_of net c u) s left ≡ None
sums_none net c u s zero low e fits h = refl
sums_none net c u s (suc left) low e fits h =
    let high : s ≤ net.species = omega arith in
    let here : sum_refusal s (sum_of net c u s) ≡ None =
    ap (sum_refusal s) (sum_fits (change net s) (amount c s) (flows_with net s u) (fits s low high))
    ∙ ap (λ b. if b then Some (TakesMore s) else None) (not_negative_is _ (subst (λ x. 0ℚ ≤ℚ x) (sym (added_sides net s (amount c s) u)) (h s low high))) in
    ap₂ option_or here (sums_none net c u (suc s) left (omega arith) (omega arith) fits h)

-- ---- both

pub legal_goes : (net : Network) (c : List ℚ) (u : List Flow) → IsNetwork net → IsSegment u → IsLegal net c u → StepFits net c u → step_refusal net c u ≡ None
legal_goes net c u ok seg legal fits =
    refused_sums net c u None (flows_none net ok c 0 u seg.ascending legal.flows legal.applicable)
    (sums_none net c u 1 net.species (omega arith) (omega arith) fits
    (λ j low high. subst (λ x. 0ℚ ≤ℚ x) (amount-added net c u j legal.flows low high) (legal.enough j)))

pub sums_are_after : (net : Network) (c next : List ℚ) (u : List Flow) → AreFlows (length net.reactions) u → length next ≡ net.species → AreSums net c u (net.species + 1) next → next ≡ after net c u
unfolding after
sums_are_after net c next u h long sums =
    ext_get_or 0ℚ next (after net c u) (long ∙ sym (length-map-range_with_len _ 1 net.species))
    (λ i l. let high : suc i ≤ net.species = omega (arith, long) in
    sym (sum_is_after net c u (suc i) (amount next (suc i)) h (omega arith) high (sums (suc i) (omega arith) (omega arith)).0).0)

inside_or_not : (s n : ℕ) → ((1 ≤ s) × (s ≤ n)) ⊎ (((1 ≤ s) × (s ≤ n)) → ⊥)
inside_or_not s n = grind arith

pub went_legal : (net : Network) (c next : List ℚ) (u : List Flow) → IsSegment u → flows_refusal net c u ≡ None → AreSums net c u (net.species + 1) next → IsLegal net c u × StepFits net c u
went_legal net c next u seg none sums =
    let flows : AreFlows (length net.reactions) u = flows_exist net c 0 u seg.ascending none in (
      record {
        flows = flows;
        applicable = all_applicable net c u none;
        enough = λ s. ⊎_elim
            (λ (h : (1 ≤ s) × (s ≤ net.species)).
            subst (λ x. 0ℚ ≤ℚ x) (sym (sum_is_after net c u s _ flows h.0 h.1 (sums s h.0 (omega arith)).0).0) (sums s h.0 (omega arith)).1)
            (λ (h : ((1 ≤ s) × (s ≤ net.species)) → ⊥). subst (λ x. 0ℚ ≤ℚ x) (sym (amount-outside net c u s h)) (≤ℚ_refl 0ℚ))
            (inside_or_not s net.species);
      },
      λ s low high. (sum_is_after net c u s _ flows low high (sums s low (omega arith)).0).1,
    )

-- ---- as a replay shows it

module _ (p : Progress) (net : Network) (c : List ℚ) (same : record { network = net; state = c } ≡ p) (u : List Flow) where
  pub shown_refusal : (o : Option StepError) → step_refusal net c u ≡ o → step_refusal p.network p.state u ≡ o
  shown_refusal o h = subst (λ (q : Progress). step_refusal q.network q.state u ≡ o) same h

  pub shown_legal : IsLegal net c u × StepFits net c u → IsLegal p.network p.state u × StepFits p.network p.state u
  shown_legal h = subst (λ (q : Progress). IsLegal q.network q.state u × StepFits q.network q.state u) same h

  pub shown_not_legal : IsNetwork net → IsSegment u → (x : StepError) → step_refusal net c u ≡ Some x → IsLegal p.network p.state u × StepFits p.network p.state u → ⊥
  shown_not_legal ok seg x h k =
      let back : IsLegal net c u × StepFits net c u = subst (λ (q : Progress). IsLegal q.network q.state u × StepFits q.network q.state u) (sym same) k in
      let e : Some x ≡ None = sym h ∙ legal_goes net c u ok seg back.0 back.1 in
      absurd (cc e)

  pub shown_after : (next : List ℚ) → AreFlows (length net.reactions) u → length next ≡ net.species → AreSums net c u (net.species + 1) next →
      record { network = net; state = next } ≡ record p { state = after p.network p.state u }
  shown_after next flows long sums =
      let made : Progress = record { network = net; state = next } in
      subst (λ (q : Progress). made ≡ record q { state = after q.network q.state u }) same
      (ap (λ d. let made : Progress = record { network = net; state = d } in made) (sums_are_after net c next u flows long sums))
