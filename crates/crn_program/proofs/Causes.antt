-- A refused segment and a refused completion have the cause of the model, and each cause refuses them.
use Rattle.std.proofs.Common.{◌≡◌, ℕ, List, ◌∷◌, ◌++◌, [], Some, None, subst, sym, ◌↔◌}
use Rattle.crn_fraction.specs.Rational.{ℚ}
use Rattle.crn_net.specs.Network.{Network, IsNetwork}
use Rattle.crn_net.specs.declared.Flow.{Flow}
use Rattle.crn_segments.specs.Flows.{IsSegment}
use Rattle.crn_segments.specs.Steps.{AreSegments}
use Rattle.crn_segments.specs.declared.StepError.{StepError}
use Rattle.crn_segments.proofs.Runs.{steps_run, run_steps}
use Rattle.crn_segments.proofs.StepCauses.{refused_step, step_refused}
use Rattle.crn_completer.proofs.CompletionCauses.{refused_completion, completion_refused}
use Rattle.crn_completer.proofs.Fitting.{completion_fits, fitting_completion}
use Rattle.crn_program.specs.Causes.{StopsFor, HasNoValueFor}
use Rattle.crn_program.specs.Finding.{Outcome, Unfinished, NoValue}
use Rattle.crn_program.specs.Runs.{IsRefused, IsRefusedCompletion}

-- segments before one are segments, and so is that one
pub those_before : (before : List (List Flow)) (u : List Flow) (rest : List (List Flow)) → AreSegments (before ++ u ∷ rest) → AreSegments before × IsSegment u
those_before [] u rest all = (tt, all.0)
those_before (v ∷ before) u rest all = let more = those_before before u rest all.1 in ((all.0, more.0), more.1)

module _ (net : Network) (ok : IsNetwork net) where
  pub segment_stops : (a : List ℚ) (us : List (List Flow)) (t : ℕ) (e : StepError) → AreSegments us → IsRefused net a us t e → StopsFor net a us t e
  segment_stops a us t e segments first =
      let (earlier, here) = those_before first.before first.segment first.rest (subst AreSegments first.split segments) in
      let (leads, fit) = steps_run net a first.before first.state earlier first.leads in
      record {
        before = first.before;
        segment = first.segment;
        rest = first.rest;
        state = first.state;
        split = first.split;
        place = first.place;
        leads = leads;
        fit = fit;
        cause = refused_step net ok first.state first.segment here e first.refused;
      }

  pub stops_segment : (a : List ℚ) (us : List (List Flow)) (t : ℕ) (e : StepError) → AreSegments us → StopsFor net a us t e → IsRefused net a us t e
  stops_segment a us t e segments stops =
      let (earlier, here) = those_before stops.before stops.segment stops.rest (subst AreSegments stops.split segments) in
      record {
        before = stops.before;
        segment = stops.segment;
        rest = stops.rest;
        state = stops.state;
        split = stops.split;
        place = stops.place;
        leads = run_steps net ok a stops.before stops.state earlier (stops.leads, stops.fit);
        refused = step_refused net ok stops.state stops.segment here e stops.cause;
      }

  pub no_value_for : (c : List ℚ) (o : Outcome) → IsRefusedCompletion net c o → HasNoValueFor net c o
  no_value_for c (Unfinished at) refused = refused_completion net ok c at refused
  no_value_for c NoValue (none, unfit) = (completion_fits net ok.reactions c none, unfit)
  no_value_for c _ refused = absurd refused

  pub refused_for : (c : List ℚ) (o : Outcome) → HasNoValueFor net c o → IsRefusedCompletion net c o
  refused_for c (Unfinished at) cause = completion_refused net ok c at cause
  refused_for c NoValue (fits, unfit) = (fitting_completion net ok.reactions c fits, unfit)
  refused_for c _ cause = absurd cause
