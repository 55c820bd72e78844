-- Tests that a step and a completion fit, and what they say.
use Rattle.std.proofs.Common.{◌≡◌, ℕ, zero, suc, ◌<◌, ◌≤◌, Bool, true, List, [], ◌∷◌, nat_lt, sym, ◌∙◌, ap, subst, ⊎_elim, arith, lt-ltb, eq-or-lt_of_le}
use Rattle.std.proofs.lemmas.Bool.{and_parts}
use Rattle.std.specs.Prelude.{pos, ◌&&◌, if◌then◌else◌}
use Rattle.crn_fraction.specs.Frac.{IsFrac}
use Rattle.crn_fraction.specs.Rational.{ℚ, ◌+ℚ◌, ◌*ℚ◌, ◌/ℚ◌, whole}
use Rattle.crn_net.proofs.Taken.{taken_in_range}
use Rattle.crn_net.specs.Network.{Network, AreReactions, amount, taken, alone, greatest_flux}
use Rattle.crn_net.specs.Totals.{change}
use Rattle.crn_net.specs.declared.Flow.{Flow}
use Rattle.crn_segments.proofs.SignLaws.{is_frac_cases}
use Rattle.crn_segments.specs.Signs.{is_frac}
use Rattle.crn_segments.specs.Fits.{SumFits, StepFits, TurnFits, flows_with}

frac_holds : (a : ℚ) → is_frac a ≡ true → IsFrac a
frac_holds a h = ⊎_elim (λ k. k.1) (λ k. absurd (cc (k.0, h))) (is_frac_cases a)

abbrev pub sum_fits : (ℕ → ℚ) → ℚ → List Flow → Bool
sum_fits k a [] = true
sum_fits k a (f ∷ fs) = is_frac (k f.reaction *ℚ f.flux) && (is_frac (a +ℚ k f.reaction *ℚ f.flux) && sum_fits k (a +ℚ k f.reaction *ℚ f.flux) fs)

sum_is : (k : ℕ → ℚ) (a : ℚ) (u : List Flow) → sum_fits k a u ≡ true → SumFits k a u
sum_is k a [] h = tt
sum_is k a (f ∷ fs) h =
    let x = and_parts (is_frac (k f.reaction *ℚ f.flux)) _ h in
    let y = and_parts (is_frac (a +ℚ k f.reaction *ℚ f.flux)) _ x.1 in
    (frac_holds _ x.0, frac_holds _ y.0, sum_is k (a +ℚ k f.reaction *ℚ f.flux) fs y.1)

-- the test holds from 1 to n
abbrev pub each_to : (ℕ → Bool) → ℕ → Bool
each_to t zero = true
each_to t (suc n) = t (suc n) && each_to t n

each_is : (t : ℕ → Bool) (n s : ℕ) → each_to t n ≡ true → 1 ≤ s → s ≤ n → t s ≡ true
each_is t zero s h low high = absurd (omega arith)
each_is t (suc n) s h low high =
    let k = and_parts (t (suc n)) (each_to t n) h in
    ⊎_elim (λ (e : s ≡ suc n). subst (λ x. t x ≡ true) (sym e) k.0) (λ (l : s < suc n). each_is t n s k.1 low (omega arith)) (eq-or-lt_of_le high)

abbrev pub step_fits : Network → List ℚ → List Flow → Bool
step_fits net c u = each_to (λ s. sum_fits (change net s) (amount c s) (flows_with net s u)) net.species

step_is : (net : Network) (c : List ℚ) (u : List Flow) → step_fits net c u ≡ true → StepFits net c u
step_is net c u h s low high = sum_is (change net s) (amount c s) (flows_with net s u) (each_is (λ s. sum_fits (change net s) (amount c s) (flows_with net s u)) net.species s h low high)

-- of species s the quotient fits where reaction r takes it
abbrev pub quotient_fits : Network → ℕ → List ℚ → ℕ → Bool
quotient_fits net r c s = if nat_lt 0 (taken net r s) then is_frac (amount c s /ℚ whole (pos (taken net r s))) else true

quotient_is : (net : Network) (r : ℕ) (c : List ℚ) (s : ℕ) → 0 < taken net r s → quotient_fits net r c s ≡ true → IsFrac (amount c s /ℚ whole (pos (taken net r s)))
quotient_is net r c s t h = frac_holds _ (sym (ap (λ b. if b then is_frac (amount c s /ℚ whole (pos (taken net r s))) else true) (lt-ltb 0 (taken net r s) t)) ∙ h)

abbrev pub turn_fits : Network → ℕ → List ℚ → Bool
turn_fits net r c = each_to (quotient_fits net r c) net.species && step_fits net c (alone r (greatest_flux net r (amount c)))

pub turn_is : (net : Network) → AreReactions net → (r : ℕ) (c : List ℚ) → turn_fits net r c ≡ true → TurnFits net r c
turn_is net ok r c h =
    let k = and_parts (each_to (quotient_fits net r c) net.species) (step_fits net c (alone r (greatest_flux net r (amount c)))) h in
    record {
      quotients = λ _ s t. let range : (1 ≤ s) × (s ≤ net.species) = taken_in_range net ok r s t in
          quotient_is net r c s t (each_is (quotient_fits net r c) net.species s k.0 range.0 range.1);
      step = λ _. step_is net c (alone r (greatest_flux net r (amount c))) k.1;
    }
