-- What comes of given segments in a network with gates, and of the gated completion after them.
use Rattle.std.specs.Prelude.{◌≡◌, List, None, Some}
use Rattle.crn_fraction.specs.Rational.{ℚ}
use Rattle.crn_net.specs.Network.{Network, Run, IsSettled, output}
use Rattle.crn_net.specs.declared.Flow.{Flow}
use Rattle.crn_segments.specs.Steps.{StepsGo}
use Rattle.crn_gated.specs.Completion.{gated_completion, gated_completed}
use Rattle.crn_gated.specs.Refusal.{gated_refusal}
use Rattle.crn_program.specs.Finding.{Outcome, RefusedSegment, Unfinished, CompletedGated}
use Rattle.crn_program.specs.Runs.{IsRefused}

-- The segments are a run from a to c. The gated completion is a run from there, and what the output is at its end, which no further run changes, is the value.
pub record IsCompletedGated (net : Network) (value : ℚ) (a : List ℚ) (us : List (List Flow)) (c : List ℚ) : Type 0 where
  pub leads : StepsGo net a us c
  pub run : Run net a us c
  pub finishes : gated_refusal net c ≡ None
  pub completes : Run net c (gated_completion net c) (gated_completed net c)
  pub value_is : output net (gated_completed net c) ≡ value
  pub settled : IsSettled net (gated_completed net c) value

-- what comes of the gated completion from c: its report, or its refusal
abbrev pub IsOutcomeOfGatedCompletion : Network → List ℚ → Outcome → Type 0
IsOutcomeOfGatedCompletion net c (Unfinished at) = gated_refusal net c ≡ Some at
IsOutcomeOfGatedCompletion net c (CompletedGated n d) = (n ≡ net) × (d ≡ c) × (gated_refusal net c ≡ None)
IsOutcomeOfGatedCompletion net c _ = ⊥

-- what comes of segments from a on, and of the gated completion after them, where the network computes this value
abbrev pub IsOutcomeOfGatedSegments : Network → ℚ → List ℚ → List (List Flow) → Outcome → Type 0
IsOutcomeOfGatedSegments net value a us (RefusedSegment t e) = IsRefused net a us t e
IsOutcomeOfGatedSegments net value a us (Unfinished at) = (c : List ℚ) × StepsGo net a us c × (gated_refusal net c ≡ Some at)
IsOutcomeOfGatedSegments net value a us (CompletedGated n c) = (n ≡ net) × IsCompletedGated net value a us c
IsOutcomeOfGatedSegments net value a us _ = ⊥
