-- The answer to a job by the answers to its parts, and that each place of a job can end.
use Rattle.std.proofs.Common.{◌≡◌, ℕ, zero, suc, false, true, List, [], ◌∷◌, Option, Some, None, refl, sym, ◌∙◌, ap, subst, ⊎_elim}
use Rattle.std.proofs.lemmas.Bool.{cases_Bool}
use Rattle.std.specs.Prelude.{pos, codes}
use Rattle.std.specs.Option.{option_and_then}
use Rattle.crn_token.specs.Plain.{Plain, PlainLine, PlainWord, PlainNumber, plain_lines, line_number, end_of}
use Rattle.crn_token.specs.Words.{says, rest_of}
use Rattle.crn_grammar.specs.declared.error.TextError.{TextError}
use Rattle.crn_grammar.specs.Table.{after, CanEnd}
use Rattle.crn_grammar.specs.Part.{Ends, Leaves}
use Rattle.crn_grammar.specs.Reading.{Refuses, RefusesPart}
use Rattle.crn_grammar.proofs.TableLaws.{can_end}
use Rattle.crn_fraction.specs.Rational.{ℚ}
use Rattle.crn_form_text.specs.Grammar.{fraction, Whole}
use Rattle.crn_function_text.specs.Words.{first_word}
use Rattle.crn_function_text.specs.Grammar.{PlainFunction, Place, Start, function_table, goes_on, part_of_lines}
use Rattle.crn_function_text.specs.Grammar as functions
use Rattle.crn_function_text.proofs.GrammarLaws.{not_followed, function_can_end}
use Rattle.crn_function_text.proofs.Steps.{never_other}
use Rattle.crn_net.specs.declared.Rails.{Rails}
use Rattle.crn_net.specs.declared.Rails.TheVariants as rails
use Rattle.crn_grammar.specs.Followed.{answer_map}
use Rattle.crn_job.specs.Grammar.{Tail, TailValue, tail_start, tail_next, tail_whole, tail_table, job_tail, lines_answer, rails_of, job_with, job_table, job_answer, with_input, value_at}
use Rattle.crn_grammar.proofs.FollowedLaws.{followed_on, followed_is, followed_refused, followed_can_end, Stops}

-- ---- the answer

-- the answer to a job, by that to its function part
job_is : (bytes : List ℕ) (lines : List PlainLine) → lines ≡ plain_lines bytes → job_answer bytes ≡ followed_on function_table goes_on job_tail job_with line_number (end_of bytes) (part_of_lines bytes lines)
job_is bytes lines is =
    followed_is function_table goes_on job_tail job_with line_number (end_of bytes) Start (plain_lines bytes)
    ∙ ap (λ ls. followed_on function_table goes_on job_tail job_with line_number (end_of bytes) (part_of_lines bytes ls)) (sym is)

pub job_read : (bytes : List ℕ) (lines left : List PlainLine) (f : PlainFunction) → lines ≡ plain_lines bytes → part_of_lines bytes lines ≡ Ends f left
    → job_answer bytes ≡ answer_map (job_with f) (lines_answer (rails_of f.kind) f.variables bytes left)
job_read bytes lines left f whole is = job_is bytes lines whole ∙ ap (followed_on function_table goes_on job_tail job_with line_number (end_of bytes)) is

pub job_refused : (bytes : List ℕ) (lines : List PlainLine) (e : TextError) → lines ≡ plain_lines bytes → RefusesPart e (part_of_lines bytes lines) → Refuses e (job_answer bytes)
job_refused bytes lines e whole is =
    subst (Refuses e) (sym (job_is bytes lines whole)) (followed_refused function_table goes_on job_tail job_with line_number (end_of bytes) e (part_of_lines bytes lines) is)

-- ---- each place can end
-- their amounts
abbrev pub nothing : Rails → List ℚ
nothing rails.Dual = fraction false (Whole 0) ∷ fraction false (Whole 0) ∷ []
nothing rails.Direct = fraction false (Whole 0) ∷ []

-- an input line of zeros
abbrev pub zeros : Rails → List Plain
zeros rails.Dual = PlainNumber (pos 0) ∷ PlainNumber (pos 0) ∷ []
zeros rails.Direct = PlainNumber (pos 0) ∷ []

abbrev pub input_line : Rails → PlainLine
input_line kind = record { number = 0; bad = false; tokens = PlainWord (codes "input") ∷ zeros kind }

-- an input line of zeros may follow while one is to come
pub zeros_lead : (n : ℕ) (t : Tail) (kind : Rails) → t.left ≡ suc n → t.rails ≡ kind → tail_next t (input_line t.rails) ≡ Some (with_input t n (nothing t.rails))
zeros_lead n t rails.Dual some is = rw (is, some) refl
zeros_lead n t rails.Direct some is = rw (is, some) refl

-- lines of the function part are lines of the job
goes_where_allowed : (s : Place) (line : PlainLine) (t : Place) → functions.next s line ≡ Some t → goes_on s line ≡ true
goes_where_allowed s line t is =
    ⊎_elim (λ going. going) (λ stop. let wrong : ◌≡◌ {A = Option Place} None (Some t) = sym (not_followed s (first_word (says line)) (rest_of (says line)) stop) ∙ is in cc) (cases_Bool (goes_on s line))

-- each place after the function part can end: with input lines of zeros
pub inputs_end : (kind : Rails) (inputs left : ℕ) (t : Tail) → t.left ≡ left → Stops (tail_table kind inputs) t
inputs_end kind inputs zero t none = ([], t, record { amounts = t.amounts; segments = t.segments }, refl, ap (λ n. value_at n t) none)
inputs_end kind inputs (suc n) t some = go (inputs_end kind inputs n (with_input t n (nothing t.rails)) refl)
  where
    go : Stops (tail_table kind inputs) (with_input t n (nothing t.rails)) → Stops (tail_table kind inputs) t
    go (more, u, v, there, end) = (input_line t.rails ∷ more, u, v, ap (option_and_then (λ w. after (tail_table kind inputs) w more)) (zeros_lead n t t.rails some refl) ∙ there, end)

pub tail_places_can_end : (kind : Rails) (inputs : ℕ) → CanEnd (tail_table kind inputs)
tail_places_can_end kind inputs = can_end (tail_table kind inputs) (λ t. Unit {0}) tt (λ s line t is e. tt) (λ t is. inputs_end kind inputs t.left t refl)

-- an input line is no line of a function part
other : (s : Place) (kind : Rails) → goes_on s (input_line kind) ≡ false
other s rails.Dual = never_other s
other s rails.Direct = never_other s

abbrev Begins : Place → PlainFunction → Type 0
Begins s f = (more : List PlainLine) × (t : Tail) × (v : TailValue) × (after (job_tail f) (tail_start (rails_of f.kind) f.variables) more ≡ Some t) × (tail_whole t ≡ Some v) × Leaves goes_on s more

begins : (s : Place) (f : PlainFunction) (n : ℕ) → f.variables ≡ n → Begins s f
begins s f zero none =
    ([], tail_start (rails_of f.kind) f.variables, record { amounts = []; segments = [] }, refl, ap (λ n. value_at n (tail_start (rails_of f.kind) f.variables)) none, tt)
begins s f (suc n) some =
    go (inputs_end (rails_of f.kind) f.variables n (with_input (tail_start (rails_of f.kind) f.variables) n (nothing (rails_of f.kind))) refl)
  where
    go : Stops (job_tail f) (with_input (tail_start (rails_of f.kind) f.variables) n (nothing (rails_of f.kind))) → Begins s f
    go (more, u, v, there, end) = (
      input_line (rails_of f.kind) ∷ more,
      u,
      v,
      ap (option_and_then (λ w. after (job_tail f) w more)) (zeros_lead n (tail_start (rails_of f.kind) f.variables) (rails_of f.kind) some refl) ∙ there,
      end,
      other s (rails_of f.kind),
    )

pub job_places_can_end : CanEnd job_table
job_places_can_end =
    followed_can_end function_table goes_on job_tail job_with function_can_end goes_where_allowed (λ f. tail_places_can_end (rails_of f.kind) f.variables) (λ s f is. begins s f f.variables refl)
