-- A text that begins with a part, and what follows it, whose grammar may depend on what the part says.
use Rattle.std.specs.Prelude.{Bool, Option}
use Rattle.std.specs.Option.{option_map}
use Rattle.crn_grammar.specs.Table.{Table, Answer, Read, Malformed, Limited}
use Rattle.crn_grammar.specs.Part.{Either, joined_table}

-- a place after the part: what the part says, and the place in what follows it
pub record Following (F R : Type 0) : Type 0 where
  pub part : F
  pub place : R

abbrev pub following_start : {R L F V W : Type 0} → (F → Table R L V W) → F → Following F R
following_start rest f = record { part = f; place = (rest f).start }

abbrev pub following_next : {R L F V W : Type 0} → (F → Table R L V W) → Following F R → L → Option (Following F R)
following_next rest r line = option_map (λ p. record { part = r.part; place = p }) ((rest r.part).next r.place line)

abbrev pub following_whole : {R L F V G W : Type 0} → (F → Table R L V W) → (F → V → G) → Following F R → Option G
following_whole rest value r = option_map (value r.part) ((rest r.part).whole r.place)

abbrev pub following_limit : {R L F V W : Type 0} → (F → Table R L V W) → Following F R → Option W
following_limit rest r = (rest r.part).limit r.place

-- the part, then what follows it, with a value made of the two values
abbrev pub followed_table : {S R L F V G W : Type 0} → Table S L F W → (S → L → Bool) → (F → Table R L V W) → (F → V → G) → Table (Either S (Following F R)) L G W
followed_table table goes_on rest value = joined_table table goes_on (following_start rest) (following_next rest) (following_whole rest value) (following_limit rest)

-- an answer with another value
abbrev pub answer_map : {V G W : Type 0} → (V → G) → Answer V W → Answer G W
answer_map value (Read v) = Read (value v)
answer_map value (Malformed n) = Malformed n
answer_map value (Limited what) = Limited what
