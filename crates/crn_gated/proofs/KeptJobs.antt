-- The gated jobs of texts within the limits.
use Rattle.std.proofs.Common.{◌≡◌, List, length, Some, None, refl, sym, ◌∙◌, ap, subst, arith}
use Rattle.std.specs.Option.{option_map_or}
use Rattle.crn_token.specs.Plain.{PlainLine}
use Rattle.crn_token.specs.Words.{says, rest_of}
use Rattle.crn_grammar.specs.Table.{IsText, PassesNone, Read, Limited}
use Rattle.crn_grammar.specs.Reading.{judged}
use Rattle.crn_grammar.proofs.FollowedKept.{followed_keeps}
use Rattle.crn_net.specs.Network.{AreNotNegative}
use Rattle.crn_net.specs.declared.Rails.TheVariants.{Direct}
use Rattle.crn_segments.specs.Steps.{AreSegments}
use Rattle.crn_job.specs.Words.{first_word}
use Rattle.crn_job.specs.Grammar.{Tail, TailValue, tail_next, tail_limit, tail_whole}
use Rattle.crn_job.specs.Reading as jobs
use Rattle.crn_job.proofs.KeptJobs.{ended}
use Rattle.crn_job.proofs.TailSteps.{kept_judged}
use Rattle.crn_gated.specs.Forms.{AreFewGatedForms}
use Rattle.crn_gated.specs.Grammar.{PlainGated, gated_table, goes_on}
use Rattle.crn_gated.specs.Reading.{IsKept}
use Rattle.crn_gated.proofs.GrammarLaws.{kept_next, whole_fits}
use Rattle.crn_gated.specs.JobGrammar.{PlainGatedJob, IsFittingGatedJob, gated_tail, gated_job_with, gated_job_table}

tail_keeps : (f : PlainGated) (t : Tail) (line : PlainLine) (u : Tail) → jobs.IsKept Direct f.variables t → tail_next t line ≡ Some u → tail_limit u ≡ None → jobs.IsKept Direct f.variables u
tail_keeps f t line u kept is low =
    kept_judged Direct f.variables 0 t u (first_word (says line)) (rest_of (says line)) kept
    (ap (λ o. judged tail_limit 0 o) is ∙ ap (λ l. option_map_or (λ what. Limited what) l (Read u)) low)

-- before the first line after the function
tail_kept : (f : PlainGated) → jobs.IsKept Direct f.variables (gated_tail f).start
tail_kept f = record { rails_are = refl; few = omega arith; inputs_are = omega arith; not_negative = tt; segments = tt }

job_is : (f : PlainGated) (t : Tail) (v : TailValue) → AreFewGatedForms f.variables f.forms → jobs.IsKept Direct f.variables t → tail_whole t ≡ Some v → IsFittingGatedJob (gated_job_with f v)
job_is f t v fits kept is =
    let (none, amounts, segments) = ended t.left t v refl is in
    record {
      function = fits;
      long = ap length (sym amounts) ∙ omega (arith, kept.inputs_are, none);
      not_negative = subst AreNotNegative amounts kept.not_negative;
      segments = subst AreSegments segments kept.segments;
      few_segments = omega (arith, kept.few, ap length segments);
    }

pub text_gated_job : (lines : List PlainLine) (job : PlainGatedJob) → IsText gated_job_table lines job → PassesNone gated_job_table lines → IsFittingGatedJob job
text_gated_job lines job is low =
    let (f, t, v, fits, kept, end, same) =
    followed_keeps gated_table goes_on gated_tail gated_job_with IsKept (λ f. AreFewGatedForms f.variables f.forms) (λ f t. jobs.IsKept Direct f.variables t)
    tt kept_next tail_keeps (λ s f kept whole. (whole_fits s f kept whole, tail_kept f)) lines job is low in
    subst IsFittingGatedJob same (job_is f t v fits kept end)
