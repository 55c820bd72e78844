-- What comes of a gated job, from what comes of the state to which its segments lead, and what is told of it.
use Rattle.std.proofs.Common.{◌≡◌, ℕ, List, [], ◌++◌, length, None, Some, refl, sym, ap, ◌∙◌, subst, append_assoc}
use Rattle.std.specs.Prelude.{codes}
use Rattle.std.specs.List.{flat_map}
use Rattle.crn_fraction.specs.Rational.{ℚ}
use Rattle.crn_net.specs.Network.{Network, Run, AreAmounts, AreNotNegative, start}
use Rattle.crn_net.specs.declared.Flow.{Flow}
use Rattle.crn_net.proofs.Completion.{run_end}
use Rattle.crn_segments.specs.Progress.{Progress}
use Rattle.crn_segments.specs.Steps.{AreSegments, StepsGo}
use Rattle.crn_segments.specs.declared.StepError.{StepError}
use Rattle.crn_segments.proofs.Runs.{steps_run}
use Rattle.crn_completer.specs.Kept.{each_alone}
use Rattle.crn_completer.specs.declared.CompletionTooBig.{CompletionTooBig}
use Rattle.crn_direct.proofs.LayoutLaws.{length-inputs_direct}
use Rattle.crn_gated.specs.Completion.{gated_completion, gated_completed}
use Rattle.crn_gated.specs.Computes.{StablyComputesGated}
use Rattle.crn_gated.specs.declared.GatedForm.{GatedForm}
use Rattle.crn_gated.specs.Forms.{AreGatedForms, gated_value}
use Rattle.crn_gated.specs.Layout.{gated_layout}
use Rattle.crn_gated.specs.Refusal.{gated_refusal}
use Rattle.crn_gated.proofs.LayoutLaws.{layout_computes}
use Rattle.crn_gated.specs.JobGrammar.{PlainGatedJob}
use Rattle.crn_program.specs.Answer.{IsOutcomeOfGatedJob}
use Rattle.crn_program.specs.Ending.{Tells}
use Rattle.crn_program.specs.Finding.{Outcome, RefusedSegment, Unfinished, CompletedGated, status_of_outcome, text_of_outcome, status_of_step, step_words}
use Rattle.crn_program.specs.Gated.{IsCompletedGated, IsOutcomeOfGatedCompletion, IsOutcomeOfGatedSegments}
use Rattle.crn_program.specs.Report.{OutputFits, line, size_line, state_lines, segment_line, output_lines, refusal}
use Rattle.crn_program.specs.Runs.{IsRefused}
use Rattle.crn_program.specs.declared.status.Status.{Status}
use Rattle.crn_program.specs.declared.status.Status.TheVariants as status

-- ---- the network and its amounts

-- the amounts of a job are amounts of the inputs
pub gated_amounts : (k : ℕ) (fs : List GatedForm) (xs : List ℚ) → length xs ≡ k → AreNotNegative xs → AreAmounts (gated_layout k fs) xs
gated_amounts k fs xs long not_negative = record { long = long ∙ sym (length-inputs_direct 0 k); not_negative = not_negative }

-- the network has a single rail as output
pub single_output : (net : Network) (k : ℕ) (fs : List GatedForm) → net ≡ gated_layout k fs → (d : List ℚ) → OutputFits net.output d
single_output net k fs same d = subst (λ n. OutputFits n.output d) (sym same) tt

pub stably_gated : (net : Network) (k : ℕ) (fs : List GatedForm) (xs : List ℚ) → net ≡ gated_layout k fs → AreGatedForms k fs → length xs ≡ k → AreNotNegative xs → AreAmounts net xs × StablyComputesGated net xs (gated_value fs xs)
stably_gated net k fs xs same are long not_negative =
    let amounts = gated_amounts k fs xs long not_negative in
    subst (λ n. AreAmounts n xs × StablyComputesGated n xs (gated_value fs xs)) (sym same) (amounts, layout_computes k fs are xs amounts)

-- ---- what comes of the segments

pub is_completed_gated : (net : Network) (value : ℚ) (xs : List ℚ) (us : List (List Flow)) (c : List ℚ) → AreSegments us → StablyComputesGated net xs value → StepsGo net (start net xs) us c → gated_refusal net c ≡ None
    → IsCompletedGated net value (start net xs) us c
is_completed_gated net value xs us c segments computes leads fits =
    let run = (steps_run net (start net xs) us c segments leads).0 in
    let settled = computes.settles us c run in
    record {
      leads = leads;
      run = run;
      finishes = fits;
      completes = computes.completes us c run;
      value_is = settled [] (gated_completed net c) refl;
      settled = settled;
    }

outcome_of_gated : (net : Network) (value : ℚ) (xs : List ℚ) (us : List (List Flow)) (c : List ℚ) (o : Outcome) → AreSegments us → StablyComputesGated net xs value → StepsGo net (start net xs) us c
    → IsOutcomeOfGatedCompletion net c o → IsOutcomeOfGatedSegments net value (start net xs) us o
outcome_of_gated net value xs us c (Unfinished at) segments computes leads found = (c, leads, found)
outcome_of_gated net value xs us c (CompletedGated n d) segments computes leads found =
    (found.0, subst (IsCompletedGated net value (start net xs) us) (sym found.1) (is_completed_gated net value xs us c segments computes leads found.2))
outcome_of_gated net value xs us c _ segments computes leads found = absurd found

-- ---- what is told

-- of the gated completion from c
pub tells_completed_gated : (net : Network) (c d : List ℚ) (fs : List Flow) (front out text : List ℕ) → gated_refusal net c ≡ None → each_alone fs ≡ gated_completion net c → Run net c (gated_completion net c) d
    → front ≡ size_line net ++ state_lines net c → text ≡ out
    → out ≡ front ++ ((line (codes "completion") ++ flat_map segment_line (each_alone fs)) ++ output_lines net.output d) → Tells (IsOutcomeOfGatedCompletion net c) status.Done text
tells_completed_gated net c d fs front out text fits all run front_is text_is is =
    let ending : d ≡ gated_completed net c = run_end net (gated_completion net c) c d run in
    record {
      what = CompletedGated net c;
      found = (refl, refl, fits);
      status_is = refl;
      text_is =
          text_is ∙ is ∙ ap (λ l. l ++ ((line (codes "completion") ++ flat_map segment_line (each_alone fs)) ++ output_lines net.output d)) front_is
          ∙ ap (λ us. (size_line net ++ state_lines net c) ++ ((line (codes "completion") ++ flat_map segment_line us) ++ output_lines net.output d)) all
          ∙ ap (λ e. (size_line net ++ state_lines net c) ++ ((line (codes "completion") ++ flat_map segment_line (gated_completion net c)) ++ output_lines net.output e)) ending
          ∙ joined (size_line net) (state_lines net c) (line (codes "completion")) (flat_map segment_line (gated_completion net c)) (output_lines net.output (gated_completed net c));
    }
  where
    joined : (a b c d e : List ℕ) → (a ++ b) ++ ((c ++ d) ++ e) ≡ a ++ (b ++ (c ++ (d ++ e)))
    joined a b c d e = append_assoc a b ((c ++ d) ++ e) ∙ ap (λ l. a ++ (b ++ l)) (append_assoc c d e)

pub tells_unfinished_gated : (net : Network) (c : List ℚ) (at : CompletionTooBig) (s : Status) (text : List ℕ) → gated_refusal net c ≡ Some at → s ≡ status_of_outcome (Unfinished at) → text ≡ text_of_outcome (Unfinished at)
    → Tells (IsOutcomeOfGatedCompletion net c) s text
tells_unfinished_gated net c at s text refused status_is text_is = record { what = Unfinished at; found = refused; status_is = status_is; text_is = text_is }

-- after the segments of a job
pub tells_gated : (net : Network) (value : ℚ) (xs : List ℚ) (us : List (List Flow)) (p q : Progress) (s : Status) (text : List ℕ) → StablyComputesGated net xs value
    → p.network ≡ net → p.state ≡ start net xs → StepsGo p.network p.state us q.state → AreSegments us → Tells (IsOutcomeOfGatedCompletion net q.state) s text → Tells (IsOutcomeOfGatedSegments net value (start net xs) us) s text
tells_gated net value xs us p q s text computes net_is state_is leads segments tells = record {
  what = tells.what;
  found = outcome_of_gated net value xs us q.state tells.what segments computes (subst (λ a. StepsGo net a us q.state) state_is (subst (λ n. StepsGo n p.state us q.state) net_is leads)) tells.found;
  status_is = tells.status_is;
  text_is = tells.text_is;
}

-- where a segment is refused
pub tells_refused_gated : (net : Network) (value : ℚ) (a : List ℚ) (us : List (List Flow)) (p : Progress) (t : ℕ) (e : StepError) (s : Status) (text : List ℕ) → p.network ≡ net → p.state ≡ a
    → IsRefused p.network p.state us t e → s ≡ status_of_step e → text ≡ refusal (step_words t e) → Tells (IsOutcomeOfGatedSegments net value a us) s text
tells_refused_gated net value a us p t e s text net_is state_is refused status_is text_is = record {
  what = RefusedSegment t e;
  found = subst (λ a. IsRefused net a us t e) state_is (subst (λ n. IsRefused n p.state us t e) net_is refused);
  status_is = status_is;
  text_is = text_is;
}

-- of a job, whose network this is
pub tells_gated_job : (job : PlainGatedJob) (net : Network) (s : Status) (text : List ℕ) → net ≡ gated_layout job.function.variables job.function.forms
    → Tells (IsOutcomeOfGatedSegments net (gated_value job.function.forms job.amounts) (start net job.amounts) job.segments) s text → Tells (IsOutcomeOfGatedJob job) s text
tells_gated_job job net s text same tells = record {
  what = tells.what;
  found = subst (λ n. IsOutcomeOfGatedSegments n (gated_value job.function.forms job.amounts) (start n job.amounts) job.segments tells.what) same tells.found;
  status_is = tells.status_is;
  text_is = tells.text_is;
}
