-- Text that is printed as tokens, with a blank between two or none.
use Rattle.std.specs.Prelude.{ℕ, ◌+◌, ◌<◌, pos, ◌≤ℤ◌, unsigned_abs, Bool, true, false, IsTrue, List, [], ◌∷◌, ◌++◌, length, codes}
use Rattle.std.specs.Fmt.{decimal}
use Rattle.std.specs.Char.{is_ascii_alphabetic}
use Rattle.crn_token.specs.declared.Sign.{Sign}
use Rattle.crn_token.specs.declared.Sign.TheVariants.{LeftParen, RightParen, Comma, Plus, Minus, Slash, Colon, Arrow, AtLeast}
use Rattle.crn_token.specs.Piece.{is_run}
use Rattle.crn_token.specs.Plain.{Plain, PlainWord, PlainNumber, PlainSign, PlainLine}

-- a token, or a blank
pub data Item : Type 0 where
  Shown : Plain → Item
  Blank : Item

-- how a symbol is written
abbrev pub sign_bytes : Sign → List ℕ
sign_bytes LeftParen = codes "("
sign_bytes RightParen = codes ")"
sign_bytes Comma = codes ","
sign_bytes Plus = codes "+"
sign_bytes Minus = codes "-"
sign_bytes Slash = codes "/"
sign_bytes Colon = codes ":"
sign_bytes Arrow = codes "->"
sign_bytes AtLeast = codes ">="

-- how a token is written
abbrev pub token_bytes : Plain → List ℕ
token_bytes (PlainWord letters) = letters
token_bytes (PlainNumber n) = decimal (unsigned_abs n)
token_bytes (PlainSign sign) = sign_bytes sign

-- how a line is written
abbrev pub spelled : List Item → List ℕ
spelled [] = []
spelled (Blank ∷ items) = 32 ∷ spelled items
spelled (Shown token ∷ items) = token_bytes token ++ spelled items

-- the tokens of a line
abbrev pub shown : List Item → List Plain
shown [] = []
shown (Blank ∷ items) = shown items
shown (Shown token ∷ items) = token ∷ shown items

-- a word has letters only, at least one; a number is from 0 to the greatest
abbrev pub IsToken : Plain → Type 0
IsToken (PlainWord letters) = IsTrue (is_run is_ascii_alphabetic letters)
IsToken (PlainNumber n) = (pos 0 ≤ℤ n) × (n ≤ℤ pos 9223372036854775807)
IsToken (PlainSign sign) = Unit {0}

-- Two signs that keep apart with no blank between them. Only `-` and `>=` don't.
abbrev pub signs_apart : Sign → Sign → Bool
signs_apart Minus AtLeast = false
signs_apart _ _ = true

-- Two tokens that keep apart with no blank between them. Two words don't, and two numbers don't.
abbrev pub keep_apart : Plain → Plain → Bool
keep_apart (PlainWord v) (PlainWord w) = false
keep_apart (PlainNumber m) (PlainNumber n) = false
keep_apart (PlainSign s) (PlainSign t) = signs_apart s t
keep_apart _ _ = true

-- the token keeps apart from what follows it
abbrev pub ends_before : Plain → List Item → Bool
ends_before token [] = true
ends_before token (Blank ∷ items) = true
ends_before token (Shown next ∷ items) = keep_apart token next

-- each token is one, and keeps apart from the next
abbrev pub IsPrinted : List Item → Type 0
IsPrinted [] = Unit {0}
IsPrinted (Blank ∷ items) = IsPrinted items
IsPrinted (Shown token ∷ items) = IsToken token × IsTrue (ends_before token items) × IsPrinted items

-- each line is printed so, and says something
abbrev pub AreLines : List (List Item) → Type 0
AreLines [] = Unit {0}
AreLines (items ∷ lines) = IsPrinted items × (0 < length (shown items)) × AreLines lines

-- the lines, each with its line feed
abbrev pub printed : List (List Item) → List ℕ
printed [] = []
printed (items ∷ lines) = spelled items ++ (10 ∷ printed lines)

-- the lines as they are read, of which the first has this number
abbrev pub lines_read : ℕ → List (List Item) → List PlainLine
lines_read number [] = []
lines_read number (items ∷ lines) = record { number = number; bad = false; tokens = shown items } ∷ lines_read (number + 1) lines
