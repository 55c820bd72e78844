-- The lines of a text that a walk over it has left.
use Rattle.std.specs.Prelude.{ℕ, ◌+◌, ◌^◌, ◌<◌, ◌≤◌, ◌≡◌, Bool, true, false, List, [], ◌∷◌, length, drop, Option, Some, None}
use Rattle.crn_token.specs.declared.Line.{Line}
use Rattle.crn_token.specs.Lines.{physical_lines}
use Rattle.crn_token.specs.Plain.{PlainLine, plain_line}

-- the text from this offset on, which begins a line, after so many physical lines
pub record IsRest (text rest : List ℕ) (at count : ℕ) : Type 0 where
  pub here : drop at text ≡ rest
  pub small : length text < 2 ^ 63
  pub within : at ≤ length text + 1
  pub few : count ≤ at
  pub counted : count + length (physical_lines rest) ≡ length (physical_lines text)

-- what was read, if anything was
abbrev pub read_if : {T : Type 0} → Bool → T → List T
read_if true line = line ∷ []
read_if false line = []

-- the line that stands next in the lines that are left, if there is one
abbrev pub IsNext : List ℕ → List PlainLine → Option Line → Type 0
IsNext text left None = left ≡ []
IsNext text left (Some line) = left ≡ plain_line text line ∷ drop 1 left

-- a text, and what its lines say that are left
pub record LinesLeft : Type 0 where
  pub text : List ℕ
  pub left : List PlainLine

-- a text, and the index of the line that stands next
pub record LineIndex : Type 0 where
  pub text : List ℕ
  pub index : ℕ
