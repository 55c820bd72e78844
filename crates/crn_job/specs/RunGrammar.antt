-- The grammar of run job text: a network part, the amounts of species, and segments, apart from how a text is read.
use Rattle.std.specs.Prelude.{ℕ, ◌==◌, if◌then◌else◌, List, [], ◌∷◌, map, drop, Option, Some, None}
use Rattle.std.specs.List.{range_with_len}
use Rattle.std.specs.Option.{option_map, option_and_then}
use Rattle.crn_fraction.specs.Rational.{ℚ, 0ℚ}
use Rattle.crn_token.specs.declared.Counted.{Counted}
use Rattle.crn_token.specs.Plain.{Plain, PlainLine, plain_lines, line_number, end_of}
use Rattle.crn_token.specs.Words.{rest_of, says}
use Rattle.crn_grammar.specs.Table.{Table, Answer, answer}
use Rattle.crn_grammar.specs.Part.{Either}
use Rattle.crn_grammar.specs.Followed.{Following, followed_table}
use Rattle.crn_net.specs.Network.{Network}
use Rattle.crn_net.specs.declared.Flow.{Flow}
use Rattle.crn_net_text.specs.Grammar.{Place, species_at, network_table, goes_on}
pub use Rattle.crn_job.specs.declared.run_tail.Given.{Given}
use Rattle.crn_job.specs.declared.words.Word.{Word}
use Rattle.crn_job.specs.declared.words.Word.TheVariants as word
use Rattle.crn_job.specs.Words.{first_word}
use Rattle.crn_job.specs.Grammar.{number_of, segments_with, segments_limit}

-- ---- amounts of species

-- the amount that is given to species s; 0 where none is
abbrev pub amount_given : List Given → ℕ → ℚ
amount_given [] s = 0ℚ
amount_given (g ∷ gs) s = if g.species == s then g.amount else amount_given gs s

-- the state of n species with these amounts
abbrev pub state_given : ℕ → List Given → List ℚ
state_given n gs = map (amount_given gs) (range_with_len 1 n)

abbrev pub given : ℕ → ℚ → Given
given species amount = record { species = species; amount = amount }

-- the species above `low` and up to n, and its amount, that are all the tokens: `Sa N`
abbrev pub given_of : ℕ → ℕ → List Plain → Option Given
given_of low n tokens = option_and_then (λ a. option_map (given a) (number_of (drop 2 tokens))) (species_at low n tokens)

-- ---- the lines after a network part

-- the number of species, the amounts that were given so far, the last one first, and the segments
pub record RunTail : Type 0 where
  pub species : ℕ
  pub amounts : List Given
  pub segments : List (List Flow)

abbrev pub run_start : ℕ → RunTail
run_start n = record { species = n; amounts = []; segments = [] }

abbrev pub with_amount : RunTail → Given → RunTail
with_amount tail g = record { species = tail.species; amounts = g ∷ tail.amounts; segments = tail.segments }

abbrev pub with_segments : RunTail → List (List Flow) → RunTail
with_segments tail us = record { species = tail.species; amounts = tail.amounts; segments = us }

-- the species of the last amount; the next must be above it
abbrev pub last_species : List Given → ℕ
last_species [] = 0
last_species (g ∷ gs) = g.species

-- `amount` lines before the first segment, and `segment` lines
abbrev pub run_follow : RunTail → List (List Flow) → Word → List Plain → Option RunTail
run_follow tail [] word.Amount rest = option_map (with_amount tail) (given_of (last_species tail.amounts) tail.species rest)
run_follow tail us word.Segment rest = option_map (with_segments tail) (segments_with us rest)
run_follow tail _ _ rest = None

abbrev pub run_next : RunTail → PlainLine → Option RunTail
run_next tail line = run_follow tail tail.segments (first_word (says line)) (rest_of (says line))

-- what the lines after a network part say
pub record RunValue : Type 0 where
  pub state : List ℚ
  pub segments : List (List Flow)

-- the text may end after each of these lines, and before the first
abbrev pub run_whole : RunTail → Option RunValue
run_whole tail = Some (record { state = state_given tail.species tail.amounts; segments = tail.segments })

abbrev pub run_limit : RunTail → Option (Counted × ℕ)
run_limit tail = segments_limit tail.segments

abbrev pub run_tail_table : ℕ → Table RunTail PlainLine RunValue (Counted × ℕ)
run_tail_table n = record { start = run_start n; next = run_next; whole = run_whole; limit = run_limit }

-- ---- run jobs
-- a network, the state that its run begins at, with an amount for each species, and segments
pub record PlainRunJob : Type 0 where
  pub network : Network
  pub state : List ℚ
  pub segments : List (List Flow)

abbrev pub run_with : Network → RunValue → PlainRunJob
run_with net v = record { network = net; state = v.state; segments = v.segments }

-- the lines after this network
abbrev pub run_tail : Network → Table RunTail PlainLine RunValue (Counted × ℕ)
run_tail net = run_tail_table net.species

abbrev pub RunPlace : Type 0
RunPlace = Either Place (Following Network RunTail)

-- the grammar: a network part, and then `amount` lines of ascending species and `segment` lines
abbrev pub run_table : Table RunPlace PlainLine PlainRunJob (Counted × ℕ)
run_table = followed_table network_table goes_on run_tail run_with

-- the answer to a text
abbrev pub run_answer : List ℕ → Answer PlainRunJob (Counted × ℕ)
run_answer bytes = answer run_table line_number (end_of bytes) run_table.start (plain_lines bytes)

-- the answer to lines after a network part
abbrev pub run_tail_answer : ℕ → List ℕ → List PlainLine → Answer RunValue (Counted × ℕ)
run_tail_answer n bytes lines = answer (run_tail_table n) line_number (end_of bytes) (run_start n) lines
