-- The grammar of job text: a function part, the amounts of its inputs, and segments, apart from how a text is read.
use Rattle.std.specs.Prelude.{ℕ, zero, suc, ◌+◌, ◌*◌, Bool, true, false, ◌&&◌, nat_lt, pos, List, [], ◌∷◌, ◌++◌, length, drop, Option, Some, None, if◌then◌else◌}
use Rattle.std.specs.Option.{option_map, option_and_then}
use Rattle.crn_fraction.specs.Rational.{ℚ}
use Rattle.crn_token.specs.declared.Sign.TheVariants.{Colon}
use Rattle.crn_token.specs.declared.Counted.{Counted}
use Rattle.crn_token.specs.declared.Counted.TheVariants as counted
use Rattle.crn_token.specs.Plain.{Plain, PlainLine, PlainNumber, PlainSign, plain_lines, line_number, end_of}
use Rattle.crn_token.specs.Words.{rest_of, says}
use Rattle.crn_grammar.specs.Table.{Table, Answer, answer}
use Rattle.crn_grammar.specs.Part.{Either}
use Rattle.crn_grammar.specs.Limits.{above}
use Rattle.crn_grammar.specs.Followed.{Following, followed_table}
use Rattle.crn_formula.specs.Functions.{Kind, ByFormula, ByPieces, ByLeast}
use Rattle.crn_form_text.specs.Reading.{fraction_at}
use Rattle.crn_function_text.specs.Grammar.{PlainFunction, Place, function_table, goes_on}
use Rattle.crn_net.specs.declared.Rails.{Rails}
use Rattle.crn_net.specs.declared.Rails.TheVariants.{Dual, Direct}
use Rattle.crn_net.specs.declared.Flow.{Flow}
use Rattle.crn_segments.specs.Signs.{is_positive_ℚ}
use Rattle.crn_job.specs.declared.words.Word.{Word}
use Rattle.crn_job.specs.declared.words.Word.TheVariants as word
use Rattle.crn_job.specs.Words.{first_word}

-- ---- what stands after the first word of a line

-- so many numbers, and nothing after them
abbrev pub numbers_of : ℕ → List Plain → Option (List ℚ)
numbers_of zero [] = Some []
numbers_of zero (token ∷ tokens) = None
numbers_of (suc n) tokens = option_and_then (λ p. option_map (λ qs. p.0 ∷ qs) (numbers_of n (drop p.1 tokens))) (fraction_at tokens)

abbrev pub flow : ℕ → ℚ → Flow
flow reaction flux = record { reaction = reaction; flux = flux }

-- the number of a reaction before a `:`, where both begin the tokens
abbrev pub reaction_at : List Plain → Option ℕ
reaction_at (PlainNumber (pos r) ∷ PlainSign Colon ∷ tokens) = Some r
reaction_at _ = None

-- the flow of a reaction, by what follows its `:`, and how many tokens it has
abbrev pub flow_to : ℕ → List Plain → Option (Flow × ℕ)
flow_to reaction tokens = option_map (λ p. (flow reaction p.0, 2 + p.1)) (fraction_at tokens)

-- the flow `R:N` that begins the tokens, and how many tokens it has
abbrev pub flow_at : List Plain → Option (Flow × ℕ)
flow_at tokens = option_and_then (λ reaction. flow_to reaction (drop 2 tokens)) (reaction_at tokens)

-- flows, at most so many, and nothing after them
abbrev pub flows_of : ℕ → List Plain → Option (List Flow)
flows_of n [] = Some []
flows_of zero (token ∷ tokens) = None
flows_of (suc n) (token ∷ tokens) = option_and_then (λ p. option_map (λ fs. p.0 ∷ fs) (flows_of n (drop p.1 (token ∷ tokens)))) (flow_at (token ∷ tokens))

-- strictly ascending reactions above `low`, each with a positive flux
abbrev pub ascend : ℕ → List Flow → Bool
ascend low [] = true
ascend low (f ∷ fs) = nat_lt low f.reaction && (is_positive_ℚ f.flux && ascend f.reaction fs)

-- one flow or more, of strictly ascending reactions from 1 on
abbrev pub is_segment : List Flow → Bool
is_segment [] = false
is_segment (f ∷ fs) = ascend 0 (f ∷ fs)

-- the segment of all the tokens. There are no more flows than tokens
abbrev pub segment_of : List Plain → Option (List Flow)
segment_of tokens = option_and_then (λ fs. if is_segment fs then Some fs else None) (flows_of (length tokens) tokens)

-- the number, where the tokens are one number and nothing after it
abbrev pub alone : ℚ → List Plain → Option ℚ
alone q [] = Some q
alone q (token ∷ tokens) = None

abbrev pub number_of : List Plain → Option ℚ
number_of tokens = option_and_then (λ p. alone p.0 (drop p.1 tokens)) (fraction_at tokens)

-- ---- segment lines

-- these segments, and the one of a line more
abbrev pub segments_with : List (List Flow) → List Plain → Option (List (List Flow))
segments_with us tokens = option_map (λ u. us ++ u ∷ []) (segment_of tokens)

-- the limit of segments
abbrev pub most_segments : ℕ
most_segments = 10000

abbrev pub segments_limit : List (List Flow) → Option (Counted × ℕ)
segments_limit us = above most_segments counted.Segments (length us)

-- ---- the lines after a function part

-- how many numbers an input line has: plus and minus, or one
abbrev pub amounts_of : Rails → ℕ
amounts_of Dual = 2
amounts_of Direct = 1

-- so many input lines are to come, with what was read
pub record Tail : Type 0 where
  pub rails : Rails
  pub left : ℕ
  pub amounts : List ℚ
  pub segments : List (List Flow)

abbrev pub tail_start : Rails → ℕ → Tail
tail_start rails inputs = record { rails = rails; left = inputs; amounts = []; segments = [] }

abbrev pub with_input : Tail → ℕ → List ℚ → Tail
with_input tail left amounts = record { rails = tail.rails; left = left; amounts = tail.amounts ++ amounts; segments = tail.segments }

abbrev pub with_segments : Tail → List (List Flow) → Tail
with_segments tail segments = record { rails = tail.rails; left = tail.left; amounts = tail.amounts; segments = segments }

-- an `input` line while one is to come, and then `segment` lines
abbrev pub tail_follow : Tail → ℕ → Word → List Plain → Option Tail
tail_follow tail (suc n) word.Input rest = option_map (λ qs. with_input tail n qs) (numbers_of (amounts_of tail.rails) rest)
tail_follow tail zero word.Segment rest = option_map (λ us. with_segments tail us) (segments_with tail.segments rest)
tail_follow tail _ _ rest = None

abbrev pub tail_next : Tail → PlainLine → Option Tail
tail_next tail line = tail_follow tail tail.left (first_word (says line)) (rest_of (says line))

-- what the lines after a function part say
pub record TailValue : Type 0 where
  pub amounts : List ℚ
  pub segments : List (List Flow)

abbrev pub value_at : ℕ → Tail → Option TailValue
value_at zero tail = Some (record { amounts = tail.amounts; segments = tail.segments })
value_at (suc n) tail = None

-- the text may end where no input line is to come
abbrev pub tail_whole : Tail → Option TailValue
tail_whole tail = value_at tail.left tail

abbrev pub tail_limit : Tail → Option (Counted × ℕ)
tail_limit tail = segments_limit tail.segments

abbrev pub tail_table : Rails → ℕ → Table Tail PlainLine TailValue (Counted × ℕ)
tail_table rails inputs = record { start = tail_start rails inputs; next = tail_next; whole = tail_whole; limit = tail_limit }

-- ---- jobs
-- a function, the amounts of its inputs from left to right, and segments
pub record PlainJob : Type 0 where
  pub function : PlainFunction
  pub amounts : List ℚ
  pub segments : List (List Flow)

-- a direct function has one amount an input, each other one two
abbrev pub rails_of : Kind → Rails
rails_of (ByFormula e) = Dual
rails_of (ByPieces pieces) = Dual
rails_of (ByLeast forms) = Direct

abbrev pub job_with : PlainFunction → TailValue → PlainJob
job_with f v = record { function = f; amounts = v.amounts; segments = v.segments }

-- the lines after this function
abbrev pub job_tail : PlainFunction → Table Tail PlainLine TailValue (Counted × ℕ)
job_tail f = tail_table (rails_of f.kind) f.variables

abbrev pub JobPlace : Type 0
JobPlace = Either Place (Following PlainFunction Tail)

-- the grammar: a function part, and then an `input` line for each variable and `segment` lines
abbrev pub job_table : Table JobPlace PlainLine PlainJob (Counted × ℕ)
job_table = followed_table function_table goes_on job_tail job_with

-- how many amounts the inputs of a function have
abbrev pub amount_count : PlainFunction → ℕ
amount_count f = f.variables * amounts_of (rails_of f.kind)

-- the answer to a text
abbrev pub job_answer : List ℕ → Answer PlainJob (Counted × ℕ)
job_answer bytes = answer job_table line_number (end_of bytes) job_table.start (plain_lines bytes)

-- the answer to lines after a function part, and to those from a line on that is counted from 0
abbrev pub lines_answer : Rails → ℕ → List ℕ → List PlainLine → Answer TailValue (Counted × ℕ)
lines_answer rails inputs bytes lines = answer (tail_table rails inputs) line_number (end_of bytes) (tail_start rails inputs) lines

abbrev pub tail_answer : Rails → ℕ → List ℕ → ℕ → Answer TailValue (Counted × ℕ)
tail_answer rails inputs bytes from = lines_answer rails inputs bytes (drop from (plain_lines bytes))
