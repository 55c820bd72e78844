-- Why a step is refused: the first cause in order. The causes exclude each other, so each comes exactly where it holds.
use Rattle.std.specs.Prelude.{◌≡◌, ℕ, ◌<◌, ◌≤◌, List, ◌∷◌, ◌++◌, length}
use Rattle.std.specs.List.{All}
use Rattle.crn_fraction.specs.Rational.{ℚ, 0ℚ, ◌≤ℚ◌, ◌<ℚ◌}
use Rattle.crn_net.specs.Causes.{IsFirst}
use Rattle.crn_net.specs.Network.{Network, IsApplicable, amount, after, taken}
use Rattle.crn_net.specs.declared.Flow.{Flow}
use Rattle.crn_segments.specs.Fits.{SpeciesFits}
use Rattle.crn_segments.specs.declared.StepError.{StepError}
use Rattle.crn_segments.specs.declared.StepError.TheVariants.{NoReaction, NotPresent, TooBig, TakesMore}

-- a flow may begin at c: its reaction exists, and each reactant has a positive amount
pub record MayBegin (net : Network) (c : List ℚ) (f : Flow) : Type 0 where
  pub exists : f.reaction ≤ length net.reactions
  pub reactants : IsApplicable net f.reaction c

-- a flow of u is of reaction r, and each flow before it may begin
pub record ComesTo (net : Network) (c : List ℚ) (u : List Flow) (r : ℕ) : Type 0 where
  pub before : List Flow
  pub flow : Flow
  pub later : List Flow
  pub split : u ≡ before ++ flow ∷ later
  pub number : flow.reaction ≡ r
  pub begin : All (MayBegin net c) before

-- s is the least reactant of reaction r without a positive amount
pub record IsFirstAbsent (net : Network) (r : ℕ) (c : List ℚ) (s : ℕ) : Type 0 where
  pub reactant : 0 < taken net r s
  pub absent : amount c s ≤ℚ 0ℚ
  pub earlier : (t : ℕ) → t < s → 0 < taken net r t → 0ℚ <ℚ amount c t

-- the sum of species s fits, and the step leaves an amount that is not negative
pub record SpeciesGoes (net : Network) (c : List ℚ) (u : List Flow) (s : ℕ) : Type 0 where
  pub fits : SpeciesFits net c u s
  pub enough : 0ℚ ≤ℚ amount (after net c u) s

-- each flow may begin, and s is the least species that does not go
pub record StopsAt (net : Network) (c : List ℚ) (u : List Flow) (s : ℕ) : Type 0 where
  pub begin : All (MayBegin net c) u
  pub first : IsFirst (SpeciesGoes net c u) net.species s

-- the step from c by the segment u is refused for this
abbrev pub IsStepCause : Network → List ℚ → List Flow → StepError → Type 0
IsStepCause net c u (NoReaction r) = ComesTo net c u r × (length net.reactions < r)
IsStepCause net c u (NotPresent r s) = ComesTo net c u r × (r ≤ length net.reactions) × IsFirstAbsent net r c s
IsStepCause net c u (TooBig s) = StopsAt net c u s × (SpeciesFits net c u s → ⊥)
IsStepCause net c u (TakesMore s) = StopsAt net c u s × SpeciesFits net c u s × (amount (after net c u) s <ℚ 0ℚ)
