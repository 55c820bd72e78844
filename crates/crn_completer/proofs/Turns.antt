-- The turn of a reaction in a completion.
use Rattle.std.proofs.Common.{◌≡◌, ◌≢◌, ℕ, zero, suc, ◌+◌, ◌<◌, ◌≤◌, ◌||◌, ◌==◌, if◌then◌else◌, Bool, true, false, List, [], ◌∷◌, length, Option, Some, None, is_some, refl, sym, ◌∙◌, ap, ap₂, subst, ⊎_elim, arith}
use Rattle.std.specs.Option.{option_or, option_map}
use Rattle.std.specs.Prelude.{pos}
use Rattle.std.proofs.lemmas.Bool.{cases_eq}
use Rattle.crn_fraction.proofs.Order.{≤ℚ_or_<ℚ, ≤ℚ_antisymm}
use Rattle.crn_fraction.proofs.Products.{≤ℚ_of_whole-*ℚ, is_zero_ℚ_cases}
use Rattle.crn_fraction.proofs.Linear.{<ℚ_irrefl}
use Rattle.crn_fraction.proofs.Ring.{*ℚ-zero}
use Rattle.crn_fraction.specs.Rational.{ℚ, 0ℚ, ◌*ℚ◌, ◌≤ℚ◌, ◌<ℚ◌, whole, is_zero_ℚ}
use Rattle.crn_net.proofs.Completion.{legal_alone}
use Rattle.crn_net.proofs.Shape.{count_of_other, count_of_same}
use Rattle.crn_net.proofs.Taken.{greatest_flux_fits, greatest_flux_uses}
use Rattle.crn_net.specs.Network.{Network, Part, Reaction, amount, numbered, taken, count_of, after, alone, greatest, greatest_flux, with_greatest, AreParts, IsNetwork, IsState, IsLegal}
use Rattle.crn_net.specs.declared.Flow.{Flow}
use Rattle.crn_segments.proofs.SignLaws.{not_negative_is}
use Rattle.crn_segments.proofs.Steps.{flows_none, refused_sums, sum_is_after}
use Rattle.crn_segments.specs.Flows.{IsSegment}
use Rattle.crn_segments.specs.Step.{sum_of, sum_refusal, first_refusal, step_refusal}
use Rattle.crn_segments.specs.declared.StepError.{StepError}
use Rattle.crn_segments.specs.declared.StepError.TheVariants.{TooBig, TakesMore}
use Rattle.crn_completer.specs.Refusal.{lacks, unfit_quotient, unfit_sum, turn_refusal}

-- ---- absent reactants

pub lacks_some : (low n : ℕ) (m : ℕ → ℚ) (ps : List Part) → AreParts low n ps → lacks m ps ≡ true → (s : ℕ) × (0 < count_of ps s) × (m s ≡ 0ℚ)
lacks_some low n m [] h k = absurd (cc k)
lacks_some low n m (p ∷ ps) h k =
    ⊎_elim (λ (z : (m p.species ≡ 0ℚ) × (is_zero_ℚ (m p.species) ≡ true)). (p.species, subst (λ x. 0 < x) (sym (count_of_same low n p ps h)) h.2, z.0))
    (λ (z : (m p.species ≢ 0ℚ) × (is_zero_ℚ (m p.species) ≡ false)).
    let rest : (s : ℕ) × (0 < count_of ps s) × (m s ≡ 0ℚ) = lacks_some p.species n m ps h.3 (sym (ap (λ b. b || lacks m ps) z.1) ∙ k) in
    let t : 0 < count_of ps rest.0 = rest.1 in
    (rest.0, (let more : 0 < (if p.species == rest.0 then p.count else 0) + count_of ps rest.0 = omega arith in more), rest.2))
    (is_zero_ℚ_cases (m p.species))

pub lacks_none : (m : ℕ → ℚ) (ps : List Part) (s : ℕ) → lacks m ps ≡ false → 0 < count_of ps s → m s ≢ 0ℚ
lacks_none m [] s h k = absurd (omega arith)
lacks_none m (p ∷ ps) s h k =
    ⊎_elim (λ (z : (m p.species ≡ 0ℚ) × (is_zero_ℚ (m p.species) ≡ true)). let e : true ≡ false = sym (ap (λ b. b || lacks m ps) z.1) ∙ h in absurd (cc e))
    (λ (z : (m p.species ≢ 0ℚ) × (is_zero_ℚ (m p.species) ≡ false)).
    ⊎_elim (λ (e : p.species ≡ s). subst (λ x. m x ≢ 0ℚ) e z.0)
    (λ (e : p.species ≢ s). lacks_none m ps s (sym (ap (λ b. b || lacks m ps) z.1) ∙ h) (subst (λ x. 0 < x) (count_of_other p ps s e) k))
    (cases_eq p.species s))
    (is_zero_ℚ_cases (m p.species))

module _ (net : Network) (ok : IsNetwork net) (r : ℕ) (low : 1 ≤ r) (high : r ≤ length net.reactions) (c : List ℚ) (state : IsState net c) where
  flux_not_negative : 0ℚ ≤ℚ greatest_flux net r (amount c)
  flux_not_negative =
      let used : (s : ℕ) × (0 < taken net r s) × (whole (pos (taken net r s)) *ℚ greatest_flux net r (amount c) ≡ amount c s) = greatest_flux_uses net ok.reactions r low high (amount c) in
      ≤ℚ_of_whole-*ℚ 0ℚ (greatest_flux net r (amount c)) (taken net r used.0) used.1
      (subst (λ x. x ≤ℚ whole (pos (taken net r used.0)) *ℚ greatest_flux net r (amount c)) (sym (*ℚ-zero (whole (pos (taken net r used.0)))))
      (subst (λ x. 0ℚ ≤ℚ x) (sym used.2) (state.not_negative used.0)))

  pub absent_turn : lacks (amount c) (numbered net.reactions r).takes ≡ true → with_greatest net r c ≡ []
  unfolding taken
  absent_turn h =
      let some : (s : ℕ) × (0 < count_of (numbered net.reactions r).takes s) × (amount c s ≡ 0ℚ) = lacks_some 0 net.species (amount c) (numbered net.reactions r).takes (ok.reactions r low high).takes h in
      let u : ℚ = greatest_flux net r (amount c) in
      let below : whole (pos (taken net r some.0)) *ℚ u ≤ℚ whole (pos (taken net r some.0)) *ℚ 0ℚ =
      subst (λ x. whole (pos (taken net r some.0)) *ℚ u ≤ℚ x) (some.2 ∙ sym (*ℚ-zero (whole (pos (taken net r some.0))))) (greatest_flux_fits net ok.reactions r low high (amount c) some.0 some.1) in
      let zero_flux : u ≡ 0ℚ = ≤ℚ_antisymm _ _ (≤ℚ_of_whole-*ℚ u 0ℚ (taken net r some.0) some.1 below) flux_not_negative in
      ⊎_elim (λ (z : (u ≡ 0ℚ) × (is_zero_ℚ u ≡ true)). ap (λ b. if b then [] else alone r u ∷ []) z.1)
      (λ (z : (u ≢ 0ℚ) × (is_zero_ℚ u ≡ false)). absurd (z.0 zero_flux)) (is_zero_ℚ_cases u)

  pub present_turn : lacks (amount c) (numbered net.reactions r).takes ≡ false → 0ℚ <ℚ greatest_flux net r (amount c)
  unfolding taken
  present_turn h =
      let u : ℚ = greatest_flux net r (amount c) in
      let used : (s : ℕ) × (0 < taken net r s) × (whole (pos (taken net r s)) *ℚ u ≡ amount c s) = greatest_flux_uses net ok.reactions r low high (amount c) in
      ⊎_elim (λ (k : u ≤ℚ 0ℚ).
      let zero_flux : u ≡ 0ℚ = ≤ℚ_antisymm _ _ k flux_not_negative in
      absurd (lacks_none (amount c) (numbered net.reactions r).takes used.0 h used.1 (sym used.2 ∙ ap (λ x. whole (pos (taken net r used.0)) *ℚ x) zero_flux ∙ *ℚ-zero (whole (pos (taken net r used.0))))))
      (λ (k : 0ℚ <ℚ u). k) (≤ℚ_or_<ℚ u 0ℚ)

  pub kept_turn : 0ℚ <ℚ greatest_flux net r (amount c) → with_greatest net r c ≡ alone r (greatest_flux net r (amount c)) ∷ []
  kept_turn h =
      let u : ℚ = greatest_flux net r (amount c) in
      ⊎_elim (λ (z : (u ≡ 0ℚ) × (is_zero_ℚ u ≡ true)). absurd (<ℚ_irrefl 0ℚ (subst (λ x. 0ℚ <ℚ x) z.0 h)))
      (λ (z : (u ≢ 0ℚ) × (is_zero_ℚ u ≡ false)). ap (λ b. if b then [] else alone r u ∷ []) z.1) (is_zero_ℚ_cases u)

  pub legal_turn : 0ℚ <ℚ greatest_flux net r (amount c) → IsLegal net c (alone r (greatest_flux net r (amount c)))
  legal_turn h = legal_alone net ok.reactions r low high c state.not_negative (greatest_flux net r (amount c)) h (λ s t. greatest_flux_fits net ok.reactions r low high (amount c) s t)

-- ---- a legal segment is refused only where it does not fit

module _ (net : Network) (c : List ℚ) (u : List Flow) (legal : IsLegal net c u) where
  sum_of_legal : (s : ℕ) (o : Option ℚ) → 1 ≤ s → s ≤ net.species → sum_of net c u s ≡ o → sum_refusal s o ≡ (if is_some o then None else Some (TooBig s))
  sum_of_legal s None low high h = refl
  sum_of_legal s (Some b) low high h =
      let is : amount (after net c u) s ≡ b = (sum_is_after net c u s b legal.flows low high h).0 in
      ap (λ t. if t then Some (TakesMore s) else None) (not_negative_is b (subst (λ x. 0ℚ ≤ℚ x) is (legal.enough s)))

  either : (b : Bool) (s : ℕ) (o : Option ℕ) → option_or (if b then None else Some (TooBig s)) (option_map (λ t. TooBig t) o) ≡ option_map (λ t. TooBig t) (if b then o else Some s)
  either true s o = refl
  either false s o = refl

  sums_of_legal : (s left : ℕ) → 1 ≤ s → s + left ≡ net.species + 1 → first_refusal (sum_of net c u) s left ≡ option_map (λ t. TooBig t) (unfit_sum (sum_of net c u) s left)
  sums_of_legal s zero low e = refl
  sums_of_legal s (suc left) low e =
      let o : Option ℚ = sum_of net c u s in
      ap₂ option_or (sum_of_legal s o low (omega arith) refl) (sums_of_legal (suc s) left (omega arith) (omega arith))
      ∙ either (is_some o) s (unfit_sum (sum_of net c u) (suc s) left)

  pub legal_refusal : IsNetwork net → IsSegment u → step_refusal net c u ≡ option_map (λ t. TooBig t) (unfit_sum (sum_of net c u) 1 net.species)
  legal_refusal ok seg =
      refused_sums net c u _ (flows_none net ok c 0 u seg.ascending legal.flows legal.applicable) (sums_of_legal 1 net.species (omega arith) (omega arith))

pub map_none : (o : Option ℕ) → option_map (λ t. TooBig t) o ≡ None → o ≡ None
map_none None h = refl
map_none (Some x) h = absurd (cc h)

pub map_some : (o : Option ℕ) (e : StepError) → option_map (λ t. TooBig t) o ≡ Some e → (s : ℕ) × (o ≡ Some s) × (e ≡ TooBig s)
map_some None e h = absurd (cc h)
map_some (Some x) e h = (x, refl, (let k : TooBig x ≡ e = cc h in sym k))

-- ---- as the code reads it

pub flux_is : (net : Network) (r : ℕ) (q : Reaction) (c d : List ℚ) (u : ℚ) → q ≡ numbered net.reactions r → d ≡ c → u ≡ greatest q.takes (amount d) → u ≡ greatest_flux net r (amount c)
unfolding greatest_flux
flux_is net r q c d u e f h = h ∙ ap₂ (λ x y. greatest x.takes (amount y)) e f

pub turn_of : (net : Network) (r : ℕ) (c : List ℚ) (a b : Option ℕ) → lacks (amount c) (numbered net.reactions r).takes ≡ false → unfit_quotient (amount c) (numbered net.reactions r).takes ≡ a →
    unfit_sum (sum_of net c (alone r (greatest_flux net r (amount c)))) 1 net.species ≡ b → turn_refusal net r c ≡ option_or a b
turn_of net r c a b h k l =
    ap (λ t. if t then None else option_or (unfit_quotient (amount c) (numbered net.reactions r).takes) (unfit_sum (sum_of net c (alone r (greatest_flux net r (amount c)))) 1 net.species)) h
    ∙ ap₂ option_or k l
