-- The jobs and run jobs of texts within the limits.
use Rattle.std.proofs.Common.{◌≡◌, ℕ, zero, suc, ◌*◌, List, length, Option, Some, None, refl, sym, ◌∙◌, ap, subst, arith}
use Rattle.std.specs.Option.{option_map_or}
use Rattle.std.proofs.lemmas.Option.{same_Some}
use Rattle.crn_token.specs.Plain.{PlainLine}
use Rattle.crn_grammar.specs.Table.{IsText, PassesNone, Read, Limited}
use Rattle.crn_token.specs.Words.{says, rest_of}
use Rattle.crn_function_text.specs.Grammar.{PlainFunction, function_table, goes_on}
use Rattle.crn_function_text.specs.Reading as functions
use Rattle.crn_function_text.proofs.Kept.{kept_next, whole_fits}
use Rattle.crn_formula.specs.Functions.{IsFitting}
use Rattle.crn_net.specs.Network.{Network, AreNotNegative}
use Rattle.crn_net.specs.Limits.{IsValid}
use Rattle.crn_net_text.specs.Grammar as networks
use Rattle.crn_net_text.specs.Grammar.{network_table}
use Rattle.crn_net_text.specs.Reading as network_text
use Rattle.crn_net_text.proofs.Kept.{kept_judged as network_judged, kept_is_valid}
use Rattle.crn_segments.specs.Steps.{AreSegments}
use Rattle.crn_job.specs.Words.{first_word}
use Rattle.crn_job.specs.Grammar.{PlainJob, Tail, TailValue, job_table, job_tail, job_with, tail_next, tail_limit, tail_whole, value_at, rails_of, amounts_of, amount_count}
use Rattle.crn_job.specs.RunGrammar.{PlainRunJob, RunTail, RunValue, run_table, run_tail, run_with, run_next, run_limit, run_whole}
use Rattle.crn_grammar.specs.Reading.{judged}
use Rattle.crn_job.specs.Reading.{IsKept, IsRunKept}
use Rattle.crn_job.specs.Fitting.{IsFittingJob, IsFittingRunJob}
use Rattle.crn_grammar.proofs.FollowedKept.{followed_keeps}
use Rattle.crn_job.proofs.TailSteps.{kept_judged}
use Rattle.crn_job.proofs.RunSteps.{run_kept}
use Rattle.crn_job.proofs.States.{length-state, state_not_negative}

-- ---- jobs

tail_keeps : (f : PlainFunction) (t : Tail) (line : PlainLine) (u : Tail) → IsKept (rails_of f.kind) f.variables t → tail_next t line ≡ Some u → tail_limit u ≡ None → IsKept (rails_of f.kind) f.variables u
tail_keeps f t line u kept is low =
    kept_judged (rails_of f.kind) f.variables 0 t u (first_word (says line)) (rest_of (says line)) kept
    (ap (λ o. judged tail_limit 0 o) is ∙ ap (λ l. option_map_or (λ what. Limited what) l (Read u)) low)

-- before the first line after the function part
tail_kept : (f : PlainFunction) → IsKept (rails_of f.kind) f.variables (job_tail f).start
tail_kept f = record { rails_are = refl; few = omega arith; inputs_are = omega arith; not_negative = tt; segments = tt }

-- where it may end
pub ended : (left : ℕ) (t : Tail) (v : TailValue) → t.left ≡ left → value_at left t ≡ Some v → (t.left ≡ 0) × (t.amounts ≡ v.amounts) × (t.segments ≡ v.segments)
ended zero t v none is = (none, ap (λ (w : TailValue). w.amounts) (same_Some _ v is), ap (λ (w : TailValue). w.segments) (same_Some _ v is))
ended (suc n) t v some is = let wrong : ◌≡◌ {A = Option TailValue} None (Some v) = is in cc

job_is : (f : PlainFunction) (t : Tail) (v : TailValue) → IsFitting f.variables f.kind → IsKept (rails_of f.kind) f.variables t → tail_whole t ≡ Some v → IsFittingJob (job_with f v)
job_is f t v fits kept is =
    let (none, amounts, segments) = ended t.left t v refl is in
    let all : t.left * amounts_of (rails_of f.kind) ≡ 0 = ap (λ n. n * amounts_of (rails_of f.kind)) none ∙ omega arith in
    let long : length t.amounts ≡ amount_count f = omega (arith, kept.inputs_are, all) in
    record {
      function = fits;
      long = ap length (sym amounts) ∙ long;
      not_negative = subst AreNotNegative amounts kept.not_negative;
      segments = subst AreSegments segments kept.segments;
      few_segments = omega (arith, kept.few, ap length segments);
    }

pub text_job : (lines : List PlainLine) (job : PlainJob) → IsText job_table lines job → PassesNone job_table lines → IsFittingJob job
text_job lines job is low =
    let (f, t, v, fits, kept, end, same) =
    followed_keeps function_table goes_on job_tail job_with functions.IsKept (λ f. IsFitting f.variables f.kind) (λ f t. IsKept (rails_of f.kind) f.variables t)
    tt kept_next tail_keeps (λ s f kept whole. (whole_fits s f kept whole, tail_kept f)) lines job is low in
    subst IsFittingJob same (job_is f t v fits kept end)

-- ---- run jobs

network_keeps : (s : networks.Place) (line : PlainLine) (t : networks.Place) → network_text.IsKept s → networks.next s line ≡ Some t → networks.limit t ≡ None → network_text.IsKept t
network_keeps s line t kept is low =
    network_judged 0 s t (says line) kept (ap (judged networks.limit 0) is ∙ ap (λ l. option_map_or (λ what. Limited what) l (Read t)) low)

-- where a network part may end
whole_valid : (s : networks.Place) (net : Network) → network_text.IsKept s → networks.whole s ≡ Some net → IsValid net
whole_valid (networks.Listing zero on) net kept is = subst IsValid (same_Some on net is) (kept_is_valid on kept)
whole_valid (networks.Listing (suc m) on) net kept is = let wrong : ◌≡◌ {A = Option Network} None (Some net) = is in cc
whole_valid networks.Start net kept is = let wrong : ◌≡◌ {A = Option Network} None (Some net) = is in cc
whole_valid (networks.Titled rails two) net kept is = let wrong : ◌≡◌ {A = Option Network} None (Some net) = is in cc
whole_valid (networks.Naming rails two n inputs) net kept is = let wrong : ◌≡◌ {A = Option Network} None (Some net) = is in cc
whole_valid (networks.Placed rails n inputs k) net kept is = let wrong : ◌≡◌ {A = Option Network} None (Some net) = is in cc
whole_valid (networks.Closed on) net kept is = let wrong : ◌≡◌ {A = Option Network} None (Some net) = is in cc

run_keeps : (net : Network) (t : RunTail) (line : PlainLine) (u : RunTail) → IsRunKept net.species t → run_next t line ≡ Some u → run_limit u ≡ None → IsRunKept net.species u
run_keeps net t line u kept is low =
    run_kept net.species 0 t u (first_word (says line)) (rest_of (says line)) kept
    (ap (λ o. judged run_limit 0 o) is ∙ ap (λ l. option_map_or (λ what. Limited what) l (Read u)) low)

run_job_is : (net : Network) (t : RunTail) (v : RunValue) → IsValid net → IsRunKept net.species t → run_whole t ≡ Some v → IsFittingRunJob (run_with net v)
run_job_is net t v valid kept is =
    subst (λ w. IsFittingRunJob (run_with net w)) (same_Some _ v is)
    (record {
      network = valid;
      state = record { long = length-state t.species t.amounts ∙ kept.species; not_negative = state_not_negative t.species t.amounts kept.not_negative };
      segments = kept.segments;
      few_segments = kept.few;
    })

pub text_run_job : (lines : List PlainLine) (job : PlainRunJob) → IsText run_table lines job → PassesNone run_table lines → IsFittingRunJob job
text_run_job lines job is low =
    let (net, t, v, valid, kept, end, same) =
    followed_keeps network_table networks.goes_on run_tail run_with network_text.IsKept IsValid (λ net t. IsRunKept net.species t)
    (tt, tt) network_keeps run_keeps (λ s net kept whole. (whole_valid s net kept whole, record { species = refl; few = omega arith; not_negative = tt; segments = tt })) lines job is low in
    subst IsFittingRunJob same (run_job_is net t v valid kept end)
