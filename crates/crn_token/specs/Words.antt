-- The words and numbers that the tokens of a line begin with.
use Rattle.std.specs.Prelude.{ℕ, Bool, false, pos, List, [], ◌∷◌, Option, Some, None, if◌then◌else◌}
use Rattle.std.specs.Str.{bytes_eq}
use Rattle.crn_token.specs.Plain.{Plain, PlainLine, PlainWord, PlainNumber, PlainSign}

-- what a line says; a bad line says nothing
abbrev pub says : PlainLine → List Plain
says line = if line.bad then [] else line.tokens

-- the tokens after the first
abbrev pub rest_of : {T : Type 0} → List T → List T
rest_of [] = []
rest_of (token ∷ tokens) = tokens

-- the first token is this word
abbrev pub begins : List ℕ → List Plain → Bool
begins word [] = false
begins word (PlainWord letters ∷ tokens) = bytes_eq letters word
begins word (PlainNumber n ∷ tokens) = false
begins word (PlainSign sign ∷ tokens) = false

-- the number that is the first token
abbrev pub number_at : List Plain → Option ℕ
number_at (PlainNumber (pos n) ∷ tokens) = Some n
number_at _ = None
