-- Why a segment, a completion and a step of `bulk` are refused, in the words of the model.
use Rattle.std.specs.Prelude.{ℕ, suc, ◌≡◌, ◌-◌, ◌%◌, List, ◌∷◌, ◌++◌, length}
use Rattle.crn_fraction.specs.Rational.{ℚ}
use Rattle.crn_fraction.specs.Frac.{IsFrac}
use Rattle.crn_net.specs.Network.{Network, Run, after_all, alone, completed}
use Rattle.crn_net.specs.Totals.{LacksReactant}
use Rattle.crn_net.specs.declared.Flow.{Flow}
use Rattle.crn_segments.specs.Causes.{IsStepCause}
use Rattle.crn_segments.specs.Fits.{QuotientsFit, StepFits, CompletionFits}
use Rattle.crn_segments.specs.Steps.{StepsFit}
use Rattle.crn_segments.specs.declared.StepError.{StepError}
use Rattle.crn_completer.specs.Causes.{IsCompletionCause}
use Rattle.crn_program.specs.Report.{OutputFits}
use Rattle.crn_program.specs.Bulk.{drawn, half_flux, halves_to}
use Rattle.crn_program.specs.Finding.{Outcome, Unfinished, NoValue}

-- those before segment t are a run from a whose numbers fit, and at the state where they lead segment t stops for this
pub record StopsFor (net : Network) (a : List ℚ) (us : List (List Flow)) (t : ℕ) (e : StepError) : Type 0 where
  pub before : List (List Flow)
  pub segment : List Flow
  pub rest : List (List Flow)
  pub state : List ℚ
  pub split : us ≡ before ++ segment ∷ rest
  pub place : t ≡ suc (length before)
  pub leads : Run net a before state
  pub fit : StepsFit net a before
  pub cause : IsStepCause net state segment e

-- the completion from c has no value for this: a number of it does not fit, or all do, and that of the output at its end does not
abbrev pub HasNoValueFor : Network → List ℚ → Outcome → Type 0
HasNoValueFor net c (Unfinished at) = IsCompletionCause net c at
HasNoValueFor net c NoValue = CompletionFits net c × (OutputFits net.output (completed net c) → ⊥)
HasNoValueFor net c _ = ⊥

-- ---- the step of `bulk`

-- each quotient of reaction r at c fits, half of the greatest flux does, and each product and each partial sum of the step with it
pub record HalfFits (net : Network) (r : ℕ) (c : List ℚ) : Type 0 where
  pub quotients : QuotientsFit net r c
  pub half : IsFrac (half_flux net r c)
  pub step : StepFits net c (alone r (half_flux net r c))

-- where the draw is even and no reactant of r is absent at c, its step fits
abbrev pub HalfGoes : Network → (draw r : ℕ) → List ℚ → Type 0
HalfGoes net draw r c = (draw % 2 ≡ 0) → (LacksReactant net r c → ⊥) → HalfFits net r c

-- the state at which reaction r has its turn, from a on and with the draws after z
abbrev pub half_state : Network → (z : ℕ) → List ℚ → ℕ → List ℚ
half_state net z a r = after_all net a (halves_to net z (r - 1) a)

abbrev pub HalfTurnGoes : Network → (z : ℕ) → List ℚ → ℕ → Type 0
HalfTurnGoes net z a r = HalfGoes net (drawn z r) r (half_state net z a r)
