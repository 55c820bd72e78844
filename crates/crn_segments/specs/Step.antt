-- What refuses a step, in the order in which it is looked for.
use Rattle.std.specs.Prelude.{◌≡◌, ℕ, zero, suc, ◌&&◌, nat_lt, if◌then◌else◌, List, [], ◌∷◌, length, Option, Some, None, Result, MatchResult}
use Rattle.std.specs.Option.{option_or, option_map}
use Rattle.crn_fraction.specs.Rational.{ℚ, ◌+ℚ◌, ◌*ℚ◌}
use Rattle.crn_net.specs.Network.{Network, Part, AreParts, amount, numbered}
use Rattle.crn_net.specs.Totals.{change}
use Rattle.crn_net.specs.declared.Flow.{Flow}
use Rattle.crn_segments.specs.Fits.{flows_with}
use Rattle.crn_segments.specs.Signs.{is_positive_ℚ, is_negative_ℚ, is_frac}
use Rattle.crn_segments.specs.declared.StepError.{StepError}
use Rattle.crn_segments.specs.declared.StepError.TheVariants.{NoReaction, NotPresent, TooBig, TakesMore}

-- the first species of the parts without a positive amount
abbrev pub first_absent : (ℕ → ℚ) → List Part → Option ℕ
first_absent m [] = None
first_absent m (p ∷ ps) = if is_positive_ℚ (m p.species) then first_absent m ps else Some p.species

-- what refuses a flow: that its reaction does not exist, or the first of its reactants that is absent
abbrev pub flow_refusal : Network → List ℚ → Flow → Option StepError
flow_refusal net c f =
    if nat_lt (length net.reactions) f.reaction then Some (NoReaction f.reaction)
    else option_map (λ s. NotPresent f.reaction s) (first_absent (amount c) (numbered net.reactions f.reaction).takes)

-- what refuses the first flow that is refused
abbrev pub flows_refusal : Network → List ℚ → List Flow → Option StepError
flows_refusal net c [] = None
flows_refusal net c (f ∷ fs) = option_or (flow_refusal net c f) (flows_refusal net c fs)

-- a and the product of each flow in turn, where each product and each partial sum fits
abbrev pub fitting_sum : (ℕ → ℚ) → ℚ → List Flow → Option ℚ
fitting_sum k a [] = Some a
fitting_sum k a (f ∷ fs) =
    if is_frac (k f.reaction *ℚ f.flux) && is_frac (a +ℚ k f.reaction *ℚ f.flux) then fitting_sum k (a +ℚ k f.reaction *ℚ f.flux) fs else None

-- the sum of species s: its amount, and the product of each flow whose reaction has it on a side
abbrev pub sum_of : Network → List ℚ → List Flow → ℕ → Option ℚ
sum_of net c u s = fitting_sum (change net s) (amount c s) (flows_with net s u)

-- the sum of species s fits and is not negative
abbrev pub sum_refusal : ℕ → Option ℚ → Option StepError
sum_refusal s None = Some (TooBig s)
sum_refusal s (Some a) = if is_negative_ℚ a then Some (TakesMore s) else None

-- the first refusal of the sums m of `left` species from s
abbrev pub first_refusal : (ℕ → Option ℚ) → ℕ → ℕ → Option StepError
first_refusal m s zero = None
first_refusal m s (suc left) = option_or (sum_refusal s (m s)) (first_refusal m (suc s) left)

abbrev pub sums_refusal : Network → List ℚ → List Flow → Option StepError
sums_refusal net c u = first_refusal (sum_of net c u) 1 net.species

unfoldable pub step_refusal : Network → List ℚ → List Flow → Option StepError
step_refusal net c u = option_or (flows_refusal net c u) (sums_refusal net c u)

-- a call answers `Ok` where nothing refuses, and else the refusal
abbrev pub Answers : {T E : Type 0} → Result T E → Option E → Type 0
Answers r o = MatchResult r (λ _. o ≡ None) (λ e. o ≡ Some e)

-- parts in ascending order of species
abbrev pub IsSide : List Part → Type 0
IsSide ps = (n : ℕ) × AreParts 0 n ps
