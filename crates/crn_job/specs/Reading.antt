-- What the reader's places and answers show.
use Rattle.std.specs.Prelude.{ℕ, ◌≡◌, ◌+◌, ◌*◌, ◌≤◌, List, [], ◌∷◌, length, drop, Result, Ok, Err}
use Rattle.crn_fraction.specs.Rational.{ℚ, 0ℚ, ◌≤ℚ◌}
use Rattle.crn_token.specs.declared.Counted.{Counted}
use Rattle.crn_token.specs.Plain.{plain_lines}
use Rattle.crn_grammar.specs.declared.error.TextError.{TextError}
use Rattle.crn_grammar.specs.Table.{Answer, Read}
use Rattle.crn_grammar.specs.Part.{Ends}
use Rattle.crn_grammar.specs.Reading.{Refuses}
use Rattle.crn_function_text.specs.Reading.{function_of}
use Rattle.crn_net.specs.Network.{Network, AreNotNegative}
use Rattle.crn_net_text.specs.Grammar.{network_part}
use Rattle.crn_net.specs.declared.Rails.{Rails}
use Rattle.crn_net.specs.declared.Flow.{Flow}
use Rattle.crn_segments.specs.Steps.{AreSegments}
use Rattle.std.proofs.Common.{Vec, Global}
use Rattle.crn_job.specs.declared.Job.{Job}
use Rattle.crn_job.specs.declared.RunJob.{RunJob}
use Rattle.crn_job.specs.declared.tail.Tail.{Tail}
use Rattle.crn_job.specs.declared.run_tail.RunTail.{RunTail}
use Rattle.crn_job.specs.Grammar as grammar
use Rattle.crn_job.specs.RunGrammar as run

-- a place with what was read
abbrev pub tail_of : Tail → grammar.Tail
tail_of t = record { rails = t.rails; left = t.left; amounts = t.amounts.items; segments = t.segments.items }

-- a job of the code
abbrev pub job_of : Job → grammar.PlainJob
job_of j = record { function = function_of j.function; amounts = j.amounts.items; segments = j.segments.items }

-- a run job of the code
abbrev pub run_job_of : RunJob → run.PlainRunJob
run_job_of j = record { network = j.network; state = j.state; segments = j.segments.items }

-- the lines begin with a network part of this network
abbrev pub BeginsWithNetwork : List ℕ → Network → Type 0
BeginsWithNetwork bytes net = (next : ℕ) × (network_part bytes ≡ Ends net (drop next (plain_lines bytes)))

-- the amounts and segments of the code
abbrev pub value_of : Vec ℚ Global × Vec (List Flow) Global → grammar.TailValue
value_of (amounts, segments) = record { amounts = amounts.items; segments = segments.items }

-- within the limits, with as many amounts as the input lines so far have, none negative, and segments
pub record IsKept (rails : Rails) (inputs : ℕ) (t : grammar.Tail) : Type 0 where
  pub rails_are : t.rails ≡ rails
  pub few : length t.segments ≤ grammar.most_segments
  pub inputs_are : length t.amounts + t.left * grammar.amounts_of rails ≡ inputs * grammar.amounts_of rails
  pub not_negative : AreNotNegative t.amounts
  pub segments : AreSegments t.segments

-- ---- the lines after a network part

-- the place of the code is this one: it has the state in place of the amounts that were given
pub record Shows (c : RunTail) (t : run.RunTail) : Type 0 where
  pub species : c.species ≡ t.species
  pub last : c.last ≡ run.last_species t.amounts
  pub state : c.state ≡ run.state_given t.species t.amounts
  pub segments : c.segments.items ≡ t.segments

-- a call leads to the place of this answer, or there was no memory
abbrev pub Leads : Result RunTail TextError → Answer run.RunTail (Counted × ℕ) → Type 0
Leads (Ok c) answer = (t : run.RunTail) × (answer ≡ Read t) × Shows c t
Leads (Err e) answer = Refuses e answer

-- the state and segments of the code
abbrev pub run_value_of : List ℚ × Vec (List Flow) Global → run.RunValue
run_value_of (state, segments) = record { state = state; segments = segments.items }

abbrev pub AreGivenNotNegative : List run.Given → Type 0
AreGivenNotNegative [] = Unit {0}
AreGivenNotNegative (g ∷ gs) = (0ℚ ≤ℚ g.amount) × AreGivenNotNegative gs

-- within the limits, with no negative amount, and segments
pub record IsRunKept (n : ℕ) (t : run.RunTail) : Type 0 where
  pub species : t.species ≡ n
  pub few : length t.segments ≤ grammar.most_segments
  pub not_negative : AreGivenNotNegative t.amounts
  pub segments : AreSegments t.segments
