-- What each command that runs does, by what is found.
use Rattle.std.proofs.Common.{◌≡◌, ℕ, List, length, refl, sym, ap, ap₂, ◌∙◌, subst}
use Rattle.crn_fraction.specs.Rational.{ℚ}
use Rattle.crn_token.specs.declared.Counted.{Counted}
use Rattle.crn_token.specs.Plain.{plain_lines}
use Rattle.crn_grammar.specs.Table as grammar
use Rattle.crn_formula.specs.Pieces.{Piece, Covers, Agree}
use Rattle.crn_formula.specs.Domains.{domain_for}
use Rattle.crn_formula.specs.Functions.{ByPieces}
use Rattle.crn_function_text.specs.Grammar.{PlainFunction}
use Rattle.crn_net.specs.Network.{Network, AreAmounts, start, encoded, after_all, completion, completed, output}
use Rattle.crn_net.specs.declared.Flow.{Flow}
use Rattle.crn_compile.specs.Networks as networks
use Rattle.crn_compile.specs.declared.CompileError.{CompileError}
use Rattle.crn_compile.specs.declared.CompileError.TheVariants as cause
use Rattle.crn_segments.specs.declared.StepError.{StepError}
use Rattle.crn_segments.specs.declared.StepError.TheVariants as step
use Rattle.crn_job.specs.Grammar.{PlainJob}
use Rattle.crn_job.specs.RunGrammar.{PlainRunJob}
use Rattle.crn_job.proofs.KeptJobs.{text_job}
use Rattle.crn_gated.specs.Completion.{gated_completion, gated_completed}
use Rattle.crn_gated.specs.Computes.{StablyComputesGated}
use Rattle.crn_gated.specs.Forms.{gated_value}
use Rattle.crn_gated.specs.Grammar.{PlainGated}
use Rattle.crn_gated.specs.JobGrammar.{PlainGatedJob}
use Rattle.crn_gated.specs.Layout.{gated_layout}
use Rattle.crn_gated.proofs.KeptJobs.{text_gated_job}
use Rattle.crn_bulk.specs.Generator.{bulk_job, bulk_number}
use Rattle.crn_program.specs.Answer.{Answers, IsFoundInText, IsFoundWithoutText, IsOutcomeOfFunction, IsOutcomeOfJob, IsOutcomeOfRunJob, IsOutcomeOfGated, IsOutcomeOfGatedJob, IsOutcomeOfHalves, IsOutcomeOfBulk}
use Rattle.crn_program.specs.Texts.{IsFunctionAnswer, IsNetworkAnswer, IsJobAnswer, IsRunAnswer, IsGatedAnswer, IsGatedJobAnswer}
use Rattle.crn_program.specs.Bulk.{halves}
use Rattle.crn_program.specs.Correct.{CompletesTo, CompletesGatedTo, Compiles, Completes, Runs, CompilesGated, CompletesGated, RunsBulk, EndsWithValue}
use Rattle.crn_program.specs.Finding.{Outcome, RefusedFunction, RefusedSegment, Unfinished, NoValue, Compiled, Completed, CompletedGated, Ran, UnfitStep, Bulked, Finding, NoCommand, LongText, WrongLine, PastLimit, Comes, status_of, status_of_outcome, status_of_cause, status_of_step, text_of, text_of_outcome}
use Rattle.crn_program.specs.Report.{EndsWith, value_line, completion_report, run_report}
use Rattle.crn_program.specs.Gated.{IsCompletedGated}
use Rattle.crn_program.specs.Runs.{IsCompleted, IsRefusedCompletion, IsOutcomeOfSegments}
use Rattle.crn_program.specs.Value.{IsValue, IsNetworkOf}
use Rattle.crn_program.specs.Words.{IsRow}
use Rattle.crn_program.specs.declared.words.Command.TheVariants.{OfText, Bulk}
use Rattle.crn_program.specs.declared.words.TextCommand.TheVariants.{Compile, Complete, Run, CompileGated, CompleteGated}
use Rattle.crn_program.specs.declared.status.Status.{Status}
use Rattle.crn_program.specs.declared.status.Status.TheVariants as status
use Rattle.crn_program.proofs.Computing.{computes_value, job_amounts}
use Rattle.crn_program.proofs.Done.{IsDone, done, not_done, comes_in_text}
use Rattle.crn_program.proofs.Encoding.{starts_encode}
use Rattle.crn_program.proofs.Endings.{found_by}
use Rattle.crn_program.proofs.GatedJobs.{gated_amounts}
use Rattle.crn_program.proofs.ReportLaws.{completion_ends, run_ends, bulk_ends}

-- ---- what a text ends with

ends_with : (net : Network) (d : List ℚ) (v : ℚ) (written text : List ℕ) → output net d ≡ v → text ≡ written → EndsWith (value_line net d) written → EndsWithValue v text
ends_with net d v written text is text_is ends =
    subst (EndsWithValue v) (sym text_is) (subst (λ w. EndsWithValue w written) is ends)

-- ---- `compile`

pieces_checked : (f : PlainFunction) (net : Network) → IsNetworkOf f net → (pieces : List Piece) → f.kind ≡ ByPieces pieces
    → Covers (domain_for f.variables (ByPieces pieces)) pieces × Agree (domain_for f.variables (ByPieces pieces)) pieces
pieces_checked f net is pieces by =
    let own : networks.IsNetworkOfPieces f.variables (domain_for f.variables (ByPieces pieces)) pieces net = subst (λ kind. networks.IsNetworkOf f.variables kind net) by is in
    (own.checked.covers, own.checked.agree)

compiles : (bytes text : List ℕ) (f : PlainFunction) (o : Outcome) → IsFunctionAnswer bytes (grammar.Read f) → IsOutcomeOfFunction f o → IsDone (status_of_outcome o) → text ≡ text_of_outcome o → Compiles bytes text
compiles bytes text f (RefusedFunction k e) read found is text_is = absurd (not_done e is)
compiles bytes text f (Compiled net) read found is text_is = record {
  function = f;
  net = net;
  read = read;
  network = found.network;
  starts = starts_encode f.variables f.kind net found.network;
  computes = λ xs amounts. computes_value net f xs found.computes amounts;
  pieces = pieces_checked f net found.network;
  written = text_is;
  reads_back = subst (λ t. IsNetworkAnswer t (grammar.Read net)) (sym text_is) found.reads_back;
}
compiles bytes text f _ read found is text_is = absurd found

-- ---- `complete`

completes_to : (net : Network) (xs : List ℚ) (us : List (List Flow)) (c : List ℚ) (v : ℚ) → IsCompleted net v (start net xs) us c → CompletesTo net xs us c v
completes_to net xs us c v end = record { leads = end.run; completes = end.completes; output_is = end.value_is; settled = end.settled; fluxes = end.fluxes }

abbrev IsDoneJob : PlainJob → Outcome → Type 0
IsDoneJob job o =
    (net : Network) × (value : ℚ) × (c : List ℚ) × IsNetworkOf job.function net × IsValue job.function (encoded net.rails job.amounts) value × (o ≡ Completed net c)
    × IsCompleted net value (start net job.amounts) job.segments c

no_refusal_done : (net : Network) (c : List ℚ) (o : Outcome) → IsRefusedCompletion net c o → IsDone (status_of_outcome o) → ⊥
no_refusal_done net c (Unfinished at) refused is = is
no_refusal_done net c NoValue refused is = is
no_refusal_done net c _ refused is = refused

no_step_done : (e : StepError) → IsDone (status_of_step e) → ⊥
no_step_done (step.NoReaction r) is = is
no_step_done (step.NotPresent r s) is = is
no_step_done (step.TooBig s) is = is
no_step_done (step.TakesMore s) is = is

done_segments : (net : Network) (value : ℚ) (a : List ℚ) (us : List (List Flow)) (o : Outcome) → IsOutcomeOfSegments net value a us o → IsDone (status_of_outcome o)
    → (c : List ℚ) × (o ≡ Completed net c) × IsCompleted net value a us c
done_segments net value a us (RefusedSegment t e) found is = absurd (no_step_done e is)
done_segments net value a us (Completed n c) found is = (c, ap (λ m. Completed m c) found.0, found.1)
done_segments net value a us o found is = absurd (no_refusal_done net found.0 o found.2 is)

done_job : (job : PlainJob) (o : Outcome) → IsOutcomeOfJob job o → IsDone (status_of_outcome o) → IsDoneJob job o
done_job job (RefusedFunction k e) found is = absurd (not_done e is)
done_job job o found is =
    let (c, same, end) = done_segments found.0 found.1 (start found.0 job.amounts) job.segments o found.4 is in (found.0, found.1, c, found.2, found.3, same, end)

completes : (bytes text : List ℕ) (job : PlainJob) (o : Outcome) → IsJobAnswer bytes (grammar.Read job) → IsOutcomeOfJob job o → IsDone (status_of_outcome o) → text ≡ text_of_outcome o → Completes bytes text
completes bytes text job o read found is text_is =
    let (net, value, c, network, value_of, same, end) = done_job job o found is in
    let written = text_is ∙ ap text_of_outcome same in
    let fits = text_job (plain_lines bytes) job read.0 read.1 in
    record {
      job = job;
      net = net;
      state = c;
      value = value;
      read = read;
      network = network;
      amounts = job_amounts net job.function job.amounts network fits.long fits.not_negative;
      value_is = value_of;
      completes = completes_to net job.amounts job.segments c value end;
      written = written;
      ends = ends_with net (completed net c) value _ text end.value_is written (completion_ends net c (completion net c) (completed net c));
    }

-- ---- `run`

runs : (bytes text : List ℕ) (job : PlainRunJob) (o : Outcome) → IsRunAnswer bytes (grammar.Read job) → IsOutcomeOfRunJob job o → IsDone (status_of_outcome o) → text ≡ text_of_outcome o → Runs bytes text
runs bytes text job (RefusedSegment t e) read found is text_is = absurd (no_step_done e is)
runs bytes text job NoValue read found is text_is = absurd is
runs bytes text job (Ran n c) read found is text_is =
    let written = text_is ∙ ap (λ m. run_report m c) found.0 in
    record { job = job; state = c; read = read; leads = found.1.run; written = written; ends = ends_with job.network c (output job.network c) _ text refl written (run_ends job.network c) }
runs bytes text job _ read found is text_is = absurd found

-- ---- `compile-gated` and `complete-gated`

compiles_gated : (bytes text : List ℕ) (f : PlainGated) (o : Outcome) → IsGatedAnswer bytes (grammar.Read f) → IsOutcomeOfGated f o → text ≡ text_of_outcome o → CompilesGated bytes text
compiles_gated bytes text f (Compiled net) read found text_is = record {
  function = f;
  net = net;
  read = read;
  network = found.network;
  starts = λ x long low. subst (λ n. AreAmounts n x) (sym found.network) (gated_amounts f.variables f.forms x long low);
  computes = λ x amounts. subst (λ y. StablyComputesGated net x (gated_value f.forms y)) (ap (λ (n : Network). encoded n.rails x) found.network) (found.computes x amounts);
  written = text_is;
  reads_back = subst (λ t. IsNetworkAnswer t (grammar.Read net)) (sym text_is) found.reads_back;
}
compiles_gated bytes text f _ read found text_is = absurd found

completes_gated_to : (net : Network) (xs : List ℚ) (us : List (List Flow)) (c : List ℚ) (v : ℚ) → IsCompletedGated net v (start net xs) us c → CompletesGatedTo net xs us c v
completes_gated_to net xs us c v end = record { leads = end.run; completes = end.completes; output_is = end.value_is; settled = end.settled }

completes_gated : (bytes text : List ℕ) (job : PlainGatedJob) (o : Outcome) → IsGatedJobAnswer bytes (grammar.Read job) → IsOutcomeOfGatedJob job o → IsDone (status_of_outcome o) → text ≡ text_of_outcome o
    → CompletesGated bytes text
completes_gated bytes text job (RefusedSegment t e) read found is text_is = absurd (no_step_done e is)
completes_gated bytes text job (Unfinished at) read found is text_is = absurd is
completes_gated bytes text job (CompletedGated n c) read found is text_is =
    let net = gated_layout job.function.variables job.function.forms in
    let value = gated_value job.function.forms job.amounts in
    let written = text_is ∙ ap (λ m. completion_report m c (gated_completion m c) (gated_completed m c)) found.0 in
    let fits = text_gated_job (plain_lines bytes) job read.0 read.1 in
    record {
      job = job;
      net = net;
      state = c;
      value = value;
      read = read;
      network = refl;
      amounts = gated_amounts job.function.variables job.function.forms job.amounts fits.long fits.not_negative;
      value_is = refl;
      completes = completes_gated_to net job.amounts job.segments c value found.1;
      written = written;
      ends = ends_with net (gated_completed net c) value _ text found.1.value_is written (completion_ends net c (gated_completion net c) (gated_completed net c));
    }
completes_gated bytes text job _ read found is text_is = absurd found

-- ---- `bulk`

abbrev IsDoneBulk : Network → ℚ → List ℚ → (z n : ℕ) → Outcome → Type 0
IsDoneBulk net value a z n o = (c : List ℚ) × (o ≡ Bulked n net (length (halves net z a)) c) × IsCompleted net value a (halves net z a) c

done_halves : (net : Network) (value : ℚ) (a : List ℚ) (z n : ℕ) (o : Outcome) → IsOutcomeOfHalves net value a z n o → IsDone (status_of_outcome o) → IsDoneBulk net value a z n o
done_halves net value a z n (UnfitStep r) found is = absurd is
done_halves net value a z n (Bulked m on count c) (size, same, fits, counted, end) is =
    (c, ap (λ k. Bulked k on count c) size ∙ ap₂ (λ k d. Bulked n k d c) same counted, end)
done_halves net value a z n o found is = absurd (no_refusal_done net (after_all net a (halves net z a)) o found.1 is)

runs_bulk : (n : ℕ) (text : List ℕ) (o : Outcome) → IsOutcomeOfBulk n o → IsDone (status_of_outcome o) → text ≡ text_of_outcome o → RunsBulk n text
runs_bulk n text o (net, value, network, value_of, found) is text_is =
    let (c, same, end) = done_halves net value (start net (bulk_job n).amounts) (bulk_number n) n o found is in
    let us = halves net (bulk_number n) (start net (bulk_job n).amounts) in
    let written = text_is ∙ ap text_of_outcome same in
    record {
      net = net;
      segments = us;
      state = c;
      value = value;
      network = network;
      value_is = value_of;
      drawn = refl;
      completes = completes_to net (bulk_job n).amounts us c value end;
      written = written;
      ends = ends_with net (completed net c) value _ text end.value_is written (bulk_ends n net (length us) (completion net c) (completed net c));
    }

bulk_found : (n : ℕ) (bytes text : List ℕ) (f : Finding) → IsFoundWithoutText (IsOutcomeOfBulk n) bytes f → IsDone (status_of f) → text ≡ text_of f → RunsBulk n text
bulk_found n bytes text (Comes o) found is text_is = runs_bulk n text o found is text_is
bulk_found n bytes text _ found is text_is = absurd found

-- ---- the laws

module _ (words : List (List ℕ)) (bytes text : List ℕ) (answer : Answers words bytes status.Done text) where
  is_done : IsDone (status_of answer.what)
  is_done = done (status_of answer.what) answer.status_is

  pub compile_right : IsRow (OfText Compile) words → Compiles bytes text
  compile_right row =
      let (f, o, read, found, is) = comes_in_text _ IsDone (λ d. d) (λ d. d) (λ d. d) IsFunctionAnswer IsOutcomeOfFunction bytes answer.what (found_by words (OfText Compile) bytes answer.what row answer.found) is_done in
      compiles bytes text f o read found (subst (λ g. IsDone (status_of g)) is is_done) (answer.text_is ∙ ap text_of is)

  pub complete_right : IsRow (OfText Complete) words → Completes bytes text
  complete_right row =
      let (job, o, read, found, is) = comes_in_text _ IsDone (λ d. d) (λ d. d) (λ d. d) IsJobAnswer IsOutcomeOfJob bytes answer.what (found_by words (OfText Complete) bytes answer.what row answer.found) is_done in
      completes bytes text job o read found (subst (λ g. IsDone (status_of g)) is is_done) (answer.text_is ∙ ap text_of is)

  pub run_right : IsRow (OfText Run) words → Runs bytes text
  run_right row =
      let (job, o, read, found, is) = comes_in_text _ IsDone (λ d. d) (λ d. d) (λ d. d) IsRunAnswer IsOutcomeOfRunJob bytes answer.what (found_by words (OfText Run) bytes answer.what row answer.found) is_done in
      runs bytes text job o read found (subst (λ g. IsDone (status_of g)) is is_done) (answer.text_is ∙ ap text_of is)

  pub compile_gated_right : IsRow (OfText CompileGated) words → CompilesGated bytes text
  compile_gated_right row =
      let (f, o, read, found, is) = comes_in_text _ IsDone (λ d. d) (λ d. d) (λ d. d) IsGatedAnswer IsOutcomeOfGated bytes answer.what (found_by words (OfText CompileGated) bytes answer.what row answer.found) is_done in
      compiles_gated bytes text f o read found (answer.text_is ∙ ap text_of is)

  pub complete_gated_right : IsRow (OfText CompleteGated) words → CompletesGated bytes text
  complete_gated_right row =
      let (job, o, read, found, is) = comes_in_text _ IsDone (λ d. d) (λ d. d) (λ d. d) IsGatedJobAnswer IsOutcomeOfGatedJob bytes answer.what (found_by words (OfText CompleteGated) bytes answer.what row answer.found) is_done in
      completes_gated bytes text job o read found (subst (λ g. IsDone (status_of g)) is is_done) (answer.text_is ∙ ap text_of is)

  pub bulk_right : (n : ℕ) → IsRow (Bulk n) words → RunsBulk n text
  bulk_right n row = bulk_found n bytes text answer.what (found_by words (Bulk n) bytes answer.what row answer.found) is_done answer.text_is
