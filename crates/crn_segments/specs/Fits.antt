-- When the numbers of a step and of a completion fit, that is, when a `Frac` holds each of them.
use Rattle.std.specs.Prelude.{ℕ, suc, ◌<◌, ◌≤◌, ◌||◌, Bool, nat_lt, List, [], ◌∷◌, filter, length, pos}
use Rattle.crn_fraction.specs.Rational.{ℚ, ◌+ℚ◌, ◌*ℚ◌, ◌/ℚ◌, whole}
use Rattle.crn_fraction.specs.Frac.{IsFrac}
use Rattle.crn_net.specs.declared.Flow.{Flow}
use Rattle.crn_net.specs.Network.{Network, amount, taken, given, after_all, alone, greatest_flux, completion_to}
use Rattle.crn_net.specs.Totals.{change, LacksReactant}

-- whether species s stands on a side of reaction r
unfoldable pub is_on_side : Network → ℕ → ℕ → Bool
is_on_side net r s = nat_lt 0 (taken net r s) || nat_lt 0 (given net r s)

-- the flows, in order, whose reaction has species s on a side
abbrev pub flows_with : Network → ℕ → List Flow → List Flow
flows_with net s u = filter (λ f. is_on_side net f.reaction s) u

-- the sum begins with a, and k f.reaction *ℚ f.flux is added for the flows in order; each product and each partial sum fits
abbrev pub SumFits : (ℕ → ℚ) → ℚ → List Flow → Type 0
SumFits k a [] = Unit {0}
SumFits k a (f ∷ fs) = IsFrac (k f.reaction *ℚ f.flux) × IsFrac (a +ℚ k f.reaction *ℚ f.flux) × SumFits k (a +ℚ k f.reaction *ℚ f.flux) fs

-- in the step from c by the segment u the sum of species s fits: its amount, and the whole number given less taken times the flux for each reaction that has
-- it on a side
abbrev pub SpeciesFits : Network → List ℚ → List Flow → ℕ → Type 0
SpeciesFits net c u s = SumFits (change net s) (amount c s) (flows_with net s u)

-- the step fits: the sum of each species does
abbrev pub StepFits : Network → List ℚ → List Flow → Type 0
StepFits net c u = (s : ℕ) → 1 ≤ s → s ≤ net.species → SpeciesFits net c u s

-- the quotient of the amount of reactant s of reaction r by its count fits
abbrev pub QuotientFits : Network → ℕ → List ℚ → ℕ → Type 0
QuotientFits net r c s = IsFrac (amount c s /ℚ whole (pos (taken net r s)))

-- that of each reactant does
abbrev pub QuotientsFit : Network → ℕ → List ℚ → Type 0
QuotientsFit net r c = (s : ℕ) → 0 < taken net r s → QuotientFits net r c s

-- the turn of reaction r at c fits: a reactant has the amount 0 and the reaction is left out, or the quotients fit, and the step of the greatest flux alone
pub record TurnFits (net : Network) (r : ℕ) (c : List ℚ) : Type 0 where
  pub quotients : (LacksReactant net r c → ⊥) → QuotientsFit net r c
  pub step : (LacksReactant net r c → ⊥) → StepFits net c (alone r (greatest_flux net r (amount c)))

-- the completion from c fits: each reaction's turn, at the state that the earlier ones lead to
abbrev pub CompletionFits : Network → List ℚ → Type 0
CompletionFits net c = (r : ℕ) → r < length net.reactions → TurnFits net (suc r) (after_all net c (completion_to net r c))
