-- The words that lines of function text begin with.
use Rattle.std.specs.Prelude.{ℕ, List, [], ◌∷◌, Option, Some, None, if◌then◌else◌, codes}
use Rattle.std.specs.Str.{bytes_eq}
use Rattle.crn_token.specs.Plain.{Plain, PlainWord, PlainNumber, PlainSign}
use Rattle.crn_function_text.specs.declared.words.Word.{Word}
use Rattle.crn_function_text.specs.declared.words.Word.TheVariants as word
use Rattle.crn_function_text.specs.declared.words.Given.{Given}
use Rattle.crn_function_text.specs.declared.words.Given.TheVariants as given

-- the word that these letters are
abbrev pub word_of : List ℕ → Word
word_of letters =
    if bytes_eq letters (codes "function") then word.Function
    else (if bytes_eq letters (codes "variables") then word.Variables
    else (if bytes_eq letters (codes "value") then word.Value
    else (if bytes_eq letters (codes "piece") then word.Piece
    else (if bytes_eq letters (codes "when") then word.When
    else (if bytes_eq letters (codes "form") then word.Form
    else word.Other)))))

-- the word of a line's first token
abbrev pub first_word : List Plain → Word
first_word [] = word.Other
first_word (PlainWord letters ∷ tokens) = word_of letters
first_word (PlainNumber n ∷ tokens) = word.Other
first_word (PlainSign sign ∷ tokens) = word.Other

-- how a function is given, by the second word of its first line
abbrev pub given_of : List ℕ → Option Given
given_of letters =
    if bytes_eq letters (codes "formula") then Some given.Formula
    else (if bytes_eq letters (codes "pieces") then Some given.Pieces
    else (if bytes_eq letters (codes "direct") then Some given.Direct
    else None))
