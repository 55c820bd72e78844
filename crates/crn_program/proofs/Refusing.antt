-- What refusals say that are for no limit, by what is found.
use Rattle.std.proofs.Common.{◌≡◌, ◌≢◌, ℕ, List, [], ◌∷◌, ◌++◌, None, Some, refl, sym, ap, ◌∙◌, subst, inl, inr}
use Rattle.std.specs.Prelude.{codes}
use Rattle.std.specs.Fmt.{decimal}
use Rattle.crn_fraction.specs.Rational.{ℚ}
use Rattle.crn_token.specs.Plain.{plain_lines}
use Rattle.crn_grammar.specs.Table as grammar
use Rattle.crn_formula.specs.Pieces.{Piece}
use Rattle.crn_formula.specs.Domains.{domain_for}
use Rattle.crn_formula.specs.Functions.{Kind, ByFormula, ByPieces, ByLeast}
use Rattle.crn_function_text.specs.Grammar.{PlainFunction}
use Rattle.crn_net.specs.Network.{Network, IsNetwork, start}
use Rattle.crn_net.specs.declared.Flow.{Flow}
use Rattle.crn_compile.specs.Refusals.{IsRefusedByPieces, IsRefused as IsCause}
use Rattle.crn_compile.specs.declared.CompileError.{CompileError}
use Rattle.crn_compile.specs.declared.CompileError.TheVariants as cause
use Rattle.crn_compile.proofs.NetworkLaws as networks
use Rattle.crn_segments.specs.Steps.{AreSegments}
use Rattle.crn_segments.specs.declared.StepError.{StepError}
use Rattle.crn_segments.specs.declared.StepError.TheVariants as step
use Rattle.crn_segments.proofs.StepCauses.{illegal_cause}
use Rattle.crn_job.specs.Grammar.{PlainJob}
use Rattle.crn_job.specs.RunGrammar.{PlainRunJob}
use Rattle.crn_job.proofs.KeptJobs.{text_job, text_run_job}
use Rattle.crn_gated.specs.JobGrammar.{PlainGatedJob}
use Rattle.crn_gated.specs.Layout.{gated_layout}
use Rattle.crn_gated.proofs.KeptJobs.{text_gated_job}
use Rattle.crn_gated.proofs.LayoutLaws.{layout_is_valid}
use Rattle.crn_program.specs.Answer.{Answers, IsOutcomeOfFunction, IsOutcomeOfJob, IsOutcomeOfRunJob, IsOutcomeOfGatedJob}
use Rattle.crn_program.specs.Texts.{IsFunctionAnswer, IsJobAnswer, IsRunAnswer, IsGatedJobAnswer}
use Rattle.crn_program.specs.Finding.{Outcome, RefusedFunction, RefusedSegment, Unfinished, NoValue, Compiled, Completed, CompletedGated, Ran, status_of, status_of_outcome, status_of_cause, status_of_step, text_of, text_of_outcome, text_of_cause, step_words}
use Rattle.crn_program.specs.Refused.{RefusesSegment, RefusesPair, RefusesGap}
use Rattle.crn_program.specs.Report.{refusal}
use Rattle.crn_program.specs.Runs.{IsRefused, IsRefusedCompletion, IsOutcomeOfSegments}
use Rattle.crn_program.specs.Statuses.{IsOfRun}
use Rattle.crn_program.specs.Value.{IsNetworkOf, IsRefusedFunction}
use Rattle.crn_program.specs.Words.{IsRow}
use Rattle.crn_program.specs.declared.words.Command.TheVariants.{OfText}
use Rattle.crn_program.specs.declared.words.TextCommand.TheVariants.{Compile, Complete, Run, CompleteGated}
use Rattle.crn_program.specs.declared.status.Status.{Status}
use Rattle.crn_program.specs.declared.status.Status.TheVariants as status
use Rattle.crn_program.proofs.Causes.{those_before, segment_stops}
use Rattle.crn_program.proofs.Done.{comes_in_text}
use Rattle.crn_program.proofs.Endings.{found_by, of_segments}

-- ---- the three statuses

abbrev IsIllegal : Status → Type 0
IsIllegal status.Illegal = Unit {0}
IsIllegal _ = ⊥

abbrev IsDisagreement : Status → Type 0
IsDisagreement status.Disagree = Unit {0}
IsDisagreement _ = ⊥

abbrev IsNotCovered : Status → Type 0
IsNotCovered status.NotCovered = Unit {0}
IsNotCovered _ = ⊥

-- what no status of a run has
no_run : (P : Status → Type 0) → (P status.Done → ⊥) → (P status.Illegal → ⊥) → (P status.TooBig → ⊥) → (s : Status) → IsOfRun s → P s → ⊥
no_run P done illegal big s (inl is) p = done (subst P is p)
no_run P done illegal big s (inr (inl is)) p = illegal (subst P is p)
no_run P done illegal big s (inr (inr is)) p = big (subst P is p)

-- ---- pieces

abbrev IsMemory : CompileError → Type 0
IsMemory cause.Memory = Unit {0}
IsMemory _ = ⊥

-- a function that is refused for want of nothing has pieces
abbrev ByItsPieces : ℕ → Kind → CompileError → Type 0
ByItsPieces k kind e = (ps : List Piece) × (kind ≡ ByPieces ps) × IsRefusedByPieces (domain_for k (ByPieces ps)) ps e

by_pieces : (k : ℕ) (kind : Kind) (e : CompileError) → (IsMemory e → ⊥) → IsCause k kind e → ByItsPieces k kind e
by_pieces k (ByFormula formula) e other is = absurd (other (subst IsMemory (sym is) tt))
by_pieces k (ByPieces ps) e other is = (ps, refl, is)
by_pieces k (ByLeast forms) e other is = absurd (other (subst IsMemory (sym is) tt))

pair_refused : (f : PlainFunction) (k : ℕ) (e : CompileError) (text : List ℕ) → IsRefusedFunction f k e → IsDisagreement (status_of_cause e) → text ≡ text_of_cause k e → RefusesPair f text
pair_refused f k (cause.Disagree i j p) text none is text_is =
    let (ps, given, refused) = by_pieces f.variables f.kind (cause.Disagree i j p) (λ m. m) none.refused in
    record { pieces = ps; given = given; first = i; second = j; point = p; differ = refused.1.differ; written = subst (λ v. text ≡ text_of_cause v (cause.Disagree i j p)) none.variables text_is }
pair_refused f k _ text none is text_is = absurd is

gap_refused : (f : PlainFunction) (k : ℕ) (e : CompileError) (text : List ℕ) → IsRefusedFunction f k e → IsNotCovered (status_of_cause e) → text ≡ text_of_cause k e → RefusesGap f text
gap_refused f k (cause.NotCovered p) text none is text_is =
    let (ps, given, refused) = by_pieces f.variables f.kind (cause.NotCovered p) (λ m. m) none.refused in
    record {
      pieces = ps;
      given = given;
      point = p;
      is_in = refused.1.is_in;
      outside = λ covered. refused.1.outside covered.0 covered.1 covered.2;
      written = subst (λ v. text ≡ text_of_cause v (cause.NotCovered p)) none.variables text_is;
    }
gap_refused f k _ text none is text_is = absurd is

pair_of_function : (f : PlainFunction) (o : Outcome) (text : List ℕ) → IsOutcomeOfFunction f o → IsDisagreement (status_of_outcome o) → text ≡ text_of_outcome o → RefusesPair f text
pair_of_function f (RefusedFunction k e) text found is text_is = pair_refused f k e text found is text_is
pair_of_function f (Compiled net) text found is text_is = absurd is
pair_of_function f _ text found is text_is = absurd found

gap_of_function : (f : PlainFunction) (o : Outcome) (text : List ℕ) → IsOutcomeOfFunction f o → IsNotCovered (status_of_outcome o) → text ≡ text_of_outcome o → RefusesGap f text
gap_of_function f (RefusedFunction k e) text found is text_is = gap_refused f k e text found is text_is
gap_of_function f (Compiled net) text found is text_is = absurd is
gap_of_function f _ text found is text_is = absurd found

pair_of_job : (job : PlainJob) (o : Outcome) (text : List ℕ) → IsOutcomeOfJob job o → IsDisagreement (status_of_outcome o) → text ≡ text_of_outcome o → RefusesPair job.function text
pair_of_job job (RefusedFunction k e) text found is text_is = pair_refused job.function k e text found is text_is
pair_of_job job o text found is text_is =
    absurd (no_run IsDisagreement (λ p. p) (λ p. p) (λ p. p) (status_of_outcome o) (of_segments found.0 found.1 (start found.0 job.amounts) job.segments o found.4) is)

gap_of_job : (job : PlainJob) (o : Outcome) (text : List ℕ) → IsOutcomeOfJob job o → IsNotCovered (status_of_outcome o) → text ≡ text_of_outcome o → RefusesGap job.function text
gap_of_job job (RefusedFunction k e) text found is text_is = gap_refused job.function k e text found is text_is
gap_of_job job o text found is text_is =
    absurd (no_run IsNotCovered (λ p. p) (λ p. p) (λ p. p) (status_of_outcome o) (of_segments found.0 found.1 (start found.0 job.amounts) job.segments o found.4) is)

-- ---- segments

-- what stands after the number
told : (t : ℕ) (e : StepError) (text : List ℕ) → IsIllegal (status_of_step e) → text ≡ refusal (step_words t e) → (why : List ℕ) × (text ≡ refusal (codes "segment " ++ (decimal t ++ why)))
told t (step.NoReaction r) text is text_is = (codes " has no reaction " ++ decimal r, text_is)
told t (step.NotPresent r s) text is text_is = (codes " reaction " ++ (decimal r ++ (codes " needs S" ++ decimal s)), text_is)
told t (step.TooBig s) text is text_is = absurd is
told t (step.TakesMore s) text is text_is = (codes " takes more S" ++ (decimal s ++ codes " than is there"), text_is)

-- the status tells that no number is too big
no_number : (e : StepError) → IsIllegal (status_of_step e) → (s : ℕ) → e ≢ step.TooBig s
no_number (step.NoReaction r) is s same = cc same
no_number (step.NotPresent r t) is s same = cc same
no_number (step.TooBig t) is s same = is
no_number (step.TakesMore t) is s same = cc same

segment_refused : (net : Network) (a : List ℚ) (us : List (List Flow)) (t : ℕ) (e : StepError) (text : List ℕ) → IsNetwork net → AreSegments us → IsRefused net a us t e → IsIllegal (status_of_step e)
    → text ≡ refusal (step_words t e) → RefusesSegment net a us text
segment_refused net a us t e text ok segments first is text_is =
    let stops = segment_stops net ok a us t e segments first in
    let (earlier, here) = those_before stops.before stops.segment stops.rest (subst AreSegments stops.split segments) in
    let (why, says) = told t e text is text_is in
    record {
      before = stops.before;
      segment = stops.segment;
      rest = stops.rest;
      state = stops.state;
      split = stops.split;
      leads = stops.leads;
      illegal = illegal_cause net ok stops.state stops.segment here e stops.cause (no_number e is);
      why = why;
      written = subst (λ n. text ≡ refusal (codes "segment " ++ (decimal n ++ why))) stops.place says;
    }

-- no cause is told as one of a segment
not_of_cause : (e : CompileError) → IsIllegal (status_of_cause e) → ⊥
not_of_cause (cause.TooManyForms count) is = is
not_of_cause (cause.BigCondition i c) is = is
not_of_cause (cause.BigDifference i j) is = is
not_of_cause (cause.Disagree i j p) is = is
not_of_cause (cause.NotCovered p) is = is
not_of_cause (cause.TooBig kept) is = is
not_of_cause (cause.TooManyRows kept) is = is
not_of_cause (cause.TooManyCells count) is = is
not_of_cause (cause.TooManyNodes count) is = is
not_of_cause cause.Memory is = is

abbrev IsOfSegment : Network → List ℚ → List (List Flow) → Outcome → Type 0
IsOfSegment net a us o = (t : ℕ) × (e : StepError) × IsRefused net a us t e × IsIllegal (status_of_step e) × (o ≡ RefusedSegment t e)

not_completing : (net : Network) (c : List ℚ) (o : Outcome) → IsRefusedCompletion net c o → IsIllegal (status_of_outcome o) → ⊥
not_completing net c (Unfinished at) refused is = is
not_completing net c NoValue refused is = is
not_completing net c _ refused is = refused

of_segment : (net : Network) (value : ℚ) (a : List ℚ) (us : List (List Flow)) (o : Outcome) → IsOutcomeOfSegments net value a us o → IsIllegal (status_of_outcome o) → IsOfSegment net a us o
of_segment net value a us (RefusedSegment t e) found is = (t, e, found, is, refl)
of_segment net value a us (Completed n c) found is = absurd is
of_segment net value a us o found is = absurd (not_completing net found.0 o found.2 is)

abbrev RefusesInNetwork : PlainJob → List ℕ → Type 0
RefusesInNetwork job text = (net : Network) × IsNetworkOf job.function net × RefusesSegment net (start net job.amounts) job.segments text

segment_of_job : (bytes text : List ℕ) (job : PlainJob) (o : Outcome) → IsJobAnswer bytes (grammar.Read job) → IsOutcomeOfJob job o → IsIllegal (status_of_outcome o) → text ≡ text_of_outcome o → RefusesInNetwork job text
segment_of_job bytes text job (RefusedFunction k e) read found is text_is = absurd (not_of_cause e is)
segment_of_job bytes text job o read found is text_is =
    let (t, e, first, illegal, same) = of_segment found.0 found.1 (start found.0 job.amounts) job.segments o found.4 is in
    let fits = text_job (plain_lines bytes) job read.0 read.1 in
    let ok = (networks.is_valid job.function.variables job.function.kind found.0 fits.function found.2).network in
    (found.0, found.2, segment_refused found.0 (start found.0 job.amounts) job.segments t e text ok fits.segments first illegal (text_is ∙ ap text_of_outcome same))

segment_of_run : (bytes text : List ℕ) (job : PlainRunJob) (o : Outcome) → IsRunAnswer bytes (grammar.Read job) → IsOutcomeOfRunJob job o → IsIllegal (status_of_outcome o) → text ≡ text_of_outcome o
    → RefusesSegment job.network job.state job.segments text
segment_of_run bytes text job (RefusedSegment t e) read found is text_is =
    let fits = text_run_job (plain_lines bytes) job read.0 read.1 in
    segment_refused job.network job.state job.segments t e text fits.network.network fits.segments found is text_is
segment_of_run bytes text job NoValue read found is text_is = absurd is
segment_of_run bytes text job (Ran n c) read found is text_is = absurd is
segment_of_run bytes text job _ read found is text_is = absurd found

abbrev RefusesInGated : PlainGatedJob → List ℕ → Type 0
RefusesInGated job text = (net : Network) × (net ≡ gated_layout job.function.variables job.function.forms) × RefusesSegment net (start net job.amounts) job.segments text

segment_of_gated_job : (bytes text : List ℕ) (job : PlainGatedJob) (o : Outcome) → IsGatedJobAnswer bytes (grammar.Read job) → IsOutcomeOfGatedJob job o → IsIllegal (status_of_outcome o) → text ≡ text_of_outcome o
    → RefusesInGated job text
segment_of_gated_job bytes text job (RefusedSegment t e) read found is text_is =
    let net = gated_layout job.function.variables job.function.forms in
    let fits = text_gated_job (plain_lines bytes) job read.0 read.1 in
    let ok = (layout_is_valid job.function.variables job.function.forms fits.function).network in
    (net, refl, segment_refused net (start net job.amounts) job.segments t e text ok fits.segments found is text_is)
segment_of_gated_job bytes text job (Unfinished at) read found is text_is = absurd is
segment_of_gated_job bytes text job (CompletedGated n c) read found is text_is = absurd is
segment_of_gated_job bytes text job _ read found is text_is = absurd found

-- ---- the laws

module _ (words : List (List ℕ)) (bytes text : List ℕ) (s : Status) (answer : Answers words bytes s text) where
  pub segment_right : IsRow (OfText Complete) words → s ≡ status.Illegal
      → (job : PlainJob) × IsJobAnswer bytes (grammar.Read job) × (net : Network) × IsNetworkOf job.function net × RefusesSegment net (start net job.amounts) job.segments text
  segment_right row told_so =
      let illegal = subst IsIllegal (sym told_so ∙ answer.status_is) tt in
      let (job, o, read, found, is) =
      comes_in_text _ IsIllegal (λ p. p) (λ p. p) (λ p. p) IsJobAnswer IsOutcomeOfJob bytes answer.what (found_by words (OfText Complete) bytes answer.what row answer.found) illegal in
      let (net, network, refuses) = segment_of_job bytes text job o read found (subst (λ g. IsIllegal (status_of g)) is illegal) (answer.text_is ∙ ap text_of is) in
      (job, read, net, network, refuses)

  pub run_segment_right : IsRow (OfText Run) words → s ≡ status.Illegal → (job : PlainRunJob) × IsRunAnswer bytes (grammar.Read job) × RefusesSegment job.network job.state job.segments text
  run_segment_right row told_so =
      let illegal = subst IsIllegal (sym told_so ∙ answer.status_is) tt in
      let (job, o, read, found, is) =
      comes_in_text _ IsIllegal (λ p. p) (λ p. p) (λ p. p) IsRunAnswer IsOutcomeOfRunJob bytes answer.what (found_by words (OfText Run) bytes answer.what row answer.found) illegal in
      (job, read, segment_of_run bytes text job o read found (subst (λ g. IsIllegal (status_of g)) is illegal) (answer.text_is ∙ ap text_of is))

  pub gated_segment_right : IsRow (OfText CompleteGated) words → s ≡ status.Illegal
      → (job : PlainGatedJob) × IsGatedJobAnswer bytes (grammar.Read job) × (net : Network) × (net ≡ gated_layout job.function.variables job.function.forms)
      × RefusesSegment net (start net job.amounts) job.segments text
  gated_segment_right row told_so =
      let illegal = subst IsIllegal (sym told_so ∙ answer.status_is) tt in
      let (job, o, read, found, is) =
      comes_in_text _ IsIllegal (λ p. p) (λ p. p) (λ p. p) IsGatedJobAnswer IsOutcomeOfGatedJob bytes answer.what (found_by words (OfText CompleteGated) bytes answer.what row answer.found) illegal in
      let (net, network, refuses) = segment_of_gated_job bytes text job o read found (subst (λ g. IsIllegal (status_of g)) is illegal) (answer.text_is ∙ ap text_of is) in
      (job, read, net, network, refuses)

  pub pair_right : IsRow (OfText Compile) words → s ≡ status.Disagree → (f : PlainFunction) × IsFunctionAnswer bytes (grammar.Read f) × RefusesPair f text
  pair_right row told_so =
      let disagree = subst IsDisagreement (sym told_so ∙ answer.status_is) tt in
      let (f, o, read, found, is) =
      comes_in_text _ IsDisagreement (λ p. p) (λ p. p) (λ p. p) IsFunctionAnswer IsOutcomeOfFunction bytes answer.what (found_by words (OfText Compile) bytes answer.what row answer.found) disagree in
      (f, read, pair_of_function f o text found (subst (λ g. IsDisagreement (status_of g)) is disagree) (answer.text_is ∙ ap text_of is))

  pub job_pair_right : IsRow (OfText Complete) words → s ≡ status.Disagree → (job : PlainJob) × IsJobAnswer bytes (grammar.Read job) × RefusesPair job.function text
  job_pair_right row told_so =
      let disagree = subst IsDisagreement (sym told_so ∙ answer.status_is) tt in
      let (job, o, read, found, is) =
      comes_in_text _ IsDisagreement (λ p. p) (λ p. p) (λ p. p) IsJobAnswer IsOutcomeOfJob bytes answer.what (found_by words (OfText Complete) bytes answer.what row answer.found) disagree in
      (job, read, pair_of_job job o text found (subst (λ g. IsDisagreement (status_of g)) is disagree) (answer.text_is ∙ ap text_of is))

  pub gap_right : IsRow (OfText Compile) words → s ≡ status.NotCovered → (f : PlainFunction) × IsFunctionAnswer bytes (grammar.Read f) × RefusesGap f text
  gap_right row told_so =
      let gap = subst IsNotCovered (sym told_so ∙ answer.status_is) tt in
      let (f, o, read, found, is) =
      comes_in_text _ IsNotCovered (λ p. p) (λ p. p) (λ p. p) IsFunctionAnswer IsOutcomeOfFunction bytes answer.what (found_by words (OfText Compile) bytes answer.what row answer.found) gap in
      (f, read, gap_of_function f o text found (subst (λ g. IsNotCovered (status_of g)) is gap) (answer.text_is ∙ ap text_of is))

  pub job_gap_right : IsRow (OfText Complete) words → s ≡ status.NotCovered → (job : PlainJob) × IsJobAnswer bytes (grammar.Read job) × RefusesGap job.function text
  job_gap_right row told_so =
      let gap = subst IsNotCovered (sym told_so ∙ answer.status_is) tt in
      let (job, o, read, found, is) =
      comes_in_text _ IsNotCovered (λ p. p) (λ p. p) (λ p. p) IsJobAnswer IsOutcomeOfJob bytes answer.what (found_by words (OfText Complete) bytes answer.what row answer.found) gap in
      (job, read, gap_of_job job o text found (subst (λ g. IsNotCovered (status_of g)) is gap) (answer.text_is ∙ ap text_of is))
