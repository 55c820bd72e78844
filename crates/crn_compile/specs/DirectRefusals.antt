-- Why a function by pieces has no direct network.
use Rattle.std.specs.Prelude.{ℕ, ◌≤◌, ◌+◌, ◌^◌, List}
use Rattle.crn_formula.specs.Pieces.{Piece}
use Rattle.crn_formula.specs.Domains.{orthant}
use Rattle.crn_formula.specs.Functions.{Kind}
use Rattle.crn_pieces.specs.Answers.{AreChecked}
use Rattle.crn_pieces.specs.Views.{pieces_of_kind}
use Rattle.crn_superadd.specs.Answers.{IsRefuted, IsNegative}
use Rattle.crn_superadd.specs.declared.SuperError.{SuperError}
use Rattle.crn_superadd.specs.declared.SuperError.TheVariants as unused
use Rattle.crn_compile.specs.Refusals.{IsRefusedByPieces}
use Rattle.crn_compile.specs.declared.CompileError.{CompileError}
use Rattle.crn_compile.specs.declared.CompileError.TheVariants.{Disagree, NotCovered, TooManyNodes, TooBig, TooManyRows, TooManyCells, Memory}
use Rattle.crn_compile.specs.declared.direct.DirectError.{DirectError}
use Rattle.crn_compile.specs.declared.direct.DirectError.TheVariants.{Compile, NotSuperadditive, Negative}

-- how a refusal of the used forms refuses the direct network
abbrev pub of_forms : SuperError → DirectError
of_forms (unused.TooBig kept) = Compile (TooBig kept)
of_forms (unused.TooManyRows kept) = Compile (TooManyRows kept)
of_forms (unused.TooManyCells count) = Compile (TooManyCells count)
of_forms (unused.NotSuperadditive first times second) = NotSuperadditive first times second
of_forms (unused.Negative point) = Negative point
of_forms unused.Memory = Compile Memory

-- it is told without the max-min formula, which direct networks do without
abbrev pub IsOfNoFormula : CompileError → Type 0
IsOfNoFormula (TooManyNodes count) = ⊥
IsOfNoFormula error = Unit {0}

-- why pieces have no direct network: they are refused on the orthant, or their cells are; or they cover the orthant and agree on it, and the function is not superadditive
-- there, or superadditive and negative somewhere
abbrev pub IsRefusedDirectByPieces : ℕ → List Piece → DirectError → Type 0
IsRefusedDirectByPieces k ps (Compile error) = IsRefusedByPieces (orthant k) ps error × IsOfNoFormula error
IsRefusedDirectByPieces k ps (NotSuperadditive first times second) =
    AreChecked (orthant k) ps × IsRefuted (orthant k) ps first times second
IsRefusedDirectByPieces k ps (Negative point) = AreChecked (orthant k) ps × IsNegative (orthant k) ps point

-- why a function of k variables that is given by pieces has none
abbrev pub IsRefusedDirect : ℕ → Kind → DirectError → Type 0
IsRefusedDirect k kind error = IsRefusedDirectByPieces k (pieces_of_kind kind) error

-- the multiple that is told is at most 2 ^ 121 + 1
abbrev pub HasSmallMultiple : DirectError → Type 0
HasSmallMultiple (NotSuperadditive first times second) = times ≤ 2 ^ 121 + 1
HasSmallMultiple error = Unit {0}

-- a limit is passed, or memory is wanting
abbrev pub IsLimitOfPieces : CompileError → Type 0
IsLimitOfPieces (Disagree first second point) = ⊥
IsLimitOfPieces (NotCovered point) = ⊥
IsLimitOfPieces error = Unit {0}

abbrev pub IsLimit : DirectError → Type 0
IsLimit (Compile error) = IsLimitOfPieces error
IsLimit error = ⊥
