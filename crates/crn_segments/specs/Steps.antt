-- Steps one after another.
use Rattle.std.specs.Prelude.{◌≡◌, List, [], ◌∷◌, None}
use Rattle.crn_fraction.specs.Rational.{ℚ}
use Rattle.crn_net.specs.Network.{Network, after}
use Rattle.crn_net.specs.declared.Flow.{Flow}
use Rattle.crn_segments.specs.Fits.{StepFits}
use Rattle.crn_segments.specs.Flows.{IsSegment}
use Rattle.crn_segments.specs.Step.{step_refusal}

-- each of them is a segment
abbrev pub AreSegments : List (List Flow) → Type 0
AreSegments [] = Unit {0}
AreSegments (u ∷ us) = IsSegment u × AreSegments us

-- steps that all answer Ok lead from c to d
abbrev pub StepsGo : Network → List ℚ → List (List Flow) → List ℚ → Type 0
StepsGo net c [] d = d ≡ c
StepsGo net c (u ∷ us) d = (step_refusal net c u ≡ None) × StepsGo net (after net c u) us d

-- the steps fit in turn
abbrev pub StepsFit : Network → List ℚ → List (List Flow) → Type 0
StepsFit net c [] = Unit {0}
StepsFit net c (u ∷ us) = StepFits net c u × StepsFit net (after net c u) us
