-- Numbers that a text can have.
use Rattle.std.specs.Prelude.{◌<◌, ◌^◌, unsigned_abs, List, [], ◌∷◌}
use Rattle.crn_token.specs.Plain.{Plain, PlainLine, PlainWord, PlainNumber, PlainSign}

-- not above the greatest, 9223372036854775807, in size
abbrev pub IsSmall : Plain → Type 0
IsSmall (PlainWord letters) = Unit {0}
IsSmall (PlainNumber n) = unsigned_abs n < 2 ^ 63
IsSmall (PlainSign sign) = Unit {0}

-- each number of the tokens is small
abbrev pub AreSmall : List Plain → Type 0
AreSmall [] = Unit {0}
AreSmall (token ∷ tokens) = IsSmall token × AreSmall tokens

-- of each line
abbrev pub AreSmallLines : List PlainLine → Type 0
AreSmallLines [] = Unit {0}
AreSmallLines (line ∷ lines) = AreSmall line.tokens × AreSmallLines lines
