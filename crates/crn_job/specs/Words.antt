-- The words that the lines after a function part or a network part begin with.
use Rattle.std.specs.Prelude.{ℕ, List, [], ◌∷◌, if◌then◌else◌, codes}
use Rattle.std.specs.Str.{bytes_eq}
use Rattle.crn_token.specs.Plain.{Plain, PlainWord, PlainNumber, PlainSign}
use Rattle.crn_job.specs.declared.words.Word.{Word}
use Rattle.crn_job.specs.declared.words.Word.TheVariants as word

-- the word that these letters are
abbrev pub word_of : List ℕ → Word
word_of letters =
    if bytes_eq letters (codes "input") then word.Input
    else (if bytes_eq letters (codes "amount") then word.Amount
    else (if bytes_eq letters (codes "segment") then word.Segment
    else word.Other))

-- the word of a line's first token
abbrev pub first_word : List Plain → Word
first_word [] = word.Other
first_word (PlainWord letters ∷ tokens) = word_of letters
first_word (PlainNumber n ∷ tokens) = word.Other
first_word (PlainSign sign ∷ tokens) = word.Other
