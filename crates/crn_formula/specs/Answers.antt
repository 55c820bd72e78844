-- The value of a function at amounts, and what a call answers about it.
use Rattle.std.specs.Prelude.{◌≡◌, List, Option, Some, None, Result, Ok, Err}
use Rattle.crn_fraction.specs.Rational.{ℚ}
use Rattle.crn_formula.specs.declared.function.ValueError.{ValueError}
use Rattle.crn_formula.specs.declared.function.ValueError.TheVariants.{TooBig, NoPiece}
use Rattle.crn_formula.specs.Functions.{kind_value, IsKindInReach, point_of}
use Rattle.crn_formula.specs.Views.{Function, kind_of}

-- the value at amounts, one for each variable, if there is one
abbrev pub value : Function → List ℚ → Option ℚ
value f x = kind_value (kind_of f.kind) (point_of f.variables (kind_of f.kind) x)

-- each number that is formed on the way to it is a fraction that fits
abbrev pub IsValueFormed : Function → List ℚ → Type 0
IsValueFormed f x = IsKindInReach (kind_of f.kind) (point_of f.variables (kind_of f.kind) x)

-- a call answers the value, or that a number on the way to it does not fit, or that there is none
abbrev pub AnswersValue : Result ℚ ValueError → (fits : Type 0) → Option ℚ → Type 0
AnswersValue (Ok v) fits value = fits × (value ≡ Some v)
AnswersValue (Err TooBig) fits value = ¬ fits
AnswersValue (Err NoPiece) fits value = fits × (value ≡ None)
