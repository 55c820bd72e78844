-- The answer to a gated job by the answers to its parts, and that each place of a job can end.
use Rattle.std.proofs.Common.{◌≡◌, ℕ, zero, suc, false, List, [], ◌∷◌, Some, refl, sym, ◌∙◌, ap, subst}
use Rattle.std.specs.Option.{option_and_then}
use Rattle.crn_token.specs.Plain.{PlainLine, plain_lines, line_number, end_of}
use Rattle.crn_grammar.specs.declared.error.TextError.{TextError}
use Rattle.crn_grammar.specs.Table.{after, CanEnd}
use Rattle.crn_grammar.specs.Part.{Ends, Leaves}
use Rattle.crn_grammar.specs.Followed.{answer_map}
use Rattle.crn_grammar.specs.Reading.{Refuses, RefusesPart}
use Rattle.crn_grammar.proofs.FollowedLaws.{followed_on, followed_is, followed_refused, followed_can_end, Stops}
use Rattle.crn_net.specs.declared.Rails.TheVariants.{Direct}
use Rattle.crn_job.specs.Grammar.{Tail, TailValue, tail_start, tail_whole, lines_answer, with_input, value_at}
use Rattle.crn_job.proofs.JobLaws.{nothing, input_line, zeros_lead, inputs_end, tail_places_can_end}
use Rattle.crn_gated.specs.Grammar.{PlainGated, Place, Start, Header, Sized, InForms, gated_table, goes_on, part_of_lines}
use Rattle.crn_gated.proofs.GrammarLaws.{next_goes, gated_can_end}
use Rattle.crn_gated.specs.JobGrammar.{gated_tail, gated_job_with, gated_job_table, gated_job_answer}

-- ---- the answer

-- the answer to a job, by that to its function
job_is : (bytes : List ℕ) (lines : List PlainLine) → lines ≡ plain_lines bytes → gated_job_answer bytes ≡ followed_on gated_table goes_on gated_tail gated_job_with line_number (end_of bytes) (part_of_lines bytes lines)
job_is bytes lines is =
    followed_is gated_table goes_on gated_tail gated_job_with line_number (end_of bytes) Start (plain_lines bytes)
    ∙ ap (λ ls. followed_on gated_table goes_on gated_tail gated_job_with line_number (end_of bytes) (part_of_lines bytes ls)) (sym is)

pub job_read : (bytes : List ℕ) (lines left : List PlainLine) (f : PlainGated) → lines ≡ plain_lines bytes → part_of_lines bytes lines ≡ Ends f left
    → gated_job_answer bytes ≡ answer_map (gated_job_with f) (lines_answer Direct f.variables bytes left)
job_read bytes lines left f whole is = job_is bytes lines whole ∙ ap (followed_on gated_table goes_on gated_tail gated_job_with line_number (end_of bytes)) is

pub job_refused : (bytes : List ℕ) (lines : List PlainLine) (e : TextError) → lines ≡ plain_lines bytes → RefusesPart e (part_of_lines bytes lines) → Refuses e (gated_job_answer bytes)
job_refused bytes lines e whole is =
    subst (Refuses e) (sym (job_is bytes lines whole)) (followed_refused gated_table goes_on gated_tail gated_job_with line_number (end_of bytes) e (part_of_lines bytes lines) is)

-- ---- each place can end

-- an input line is no line of the function
other : (s : Place) → goes_on s (input_line Direct) ≡ false
other Start = refl
other Header = refl
other (Sized k) = refl
other (InForms k forms) = refl

abbrev Begins : Place → PlainGated → Type 0
Begins s f = (more : List PlainLine) × (t : Tail) × (v : TailValue) × (after (gated_tail f) (tail_start Direct f.variables) more ≡ Some t) × (tail_whole t ≡ Some v) × Leaves goes_on s more

begins : (s : Place) (f : PlainGated) (n : ℕ) → f.variables ≡ n → Begins s f
begins s f zero none =
    ([], tail_start Direct f.variables, record { amounts = []; segments = [] }, refl, ap (λ n. value_at n (tail_start Direct f.variables)) none, tt)
begins s f (suc n) some = go (inputs_end Direct f.variables n (with_input (tail_start Direct f.variables) n (nothing Direct)) refl)
  where
    go : Stops (gated_tail f) (with_input (tail_start Direct f.variables) n (nothing Direct)) → Begins s f
    go (more, u, v, there, end) = (
      input_line Direct ∷ more,
      u,
      v,
      ap (option_and_then (λ w. after (gated_tail f) w more)) (zeros_lead n (tail_start Direct f.variables) Direct some refl) ∙ there,
      end,
      other s,
    )

pub gated_job_can_end : CanEnd gated_job_table
gated_job_can_end = followed_can_end gated_table goes_on gated_tail gated_job_with gated_can_end next_goes (λ f. tail_places_can_end Direct f.variables) (λ s f is. begins s f f.variables refl)
