-- The numbers of functions: the entries of their forms, and the factors of multiples in a formula.
use Rattle.std.specs.Prelude.{All}
use Rattle.crn_fraction.specs.Frac.{IsFrac}
use Rattle.crn_linear.specs.Fracs.{AreFracs, AreFormFracs}
use Rattle.crn_formula.specs.Formulas.{Formula, Lin, Add, Sub, Scale, Min, Max}
use Rattle.crn_formula.specs.Pieces.{Piece}
use Rattle.crn_formula.specs.Functions.{Kind, ByFormula, ByPieces, ByLeast}

-- each number of the formula is a fraction that fits
abbrev pub HasFracs : Formula → Type 0
HasFracs (Lin form) = AreFracs form
HasFracs (Add a b) = HasFracs a × HasFracs b
HasFracs (Sub a b) = HasFracs a × HasFracs b
HasFracs (Scale q a) = IsFrac q × HasFracs a
HasFracs (Min a b) = HasFracs a × HasFracs b
HasFracs (Max a b) = HasFracs a × HasFracs b

-- of the piece, conditions included
abbrev pub HasPieceFracs : Piece → Type 0
HasPieceFracs piece = AreFracs piece.form × AreFormFracs piece.conditions

-- of the function
abbrev pub HasKindFracs : Kind → Type 0
HasKindFracs (ByFormula e) = HasFracs e
HasKindFracs (ByPieces pieces) = All HasPieceFracs pieces
HasKindFracs (ByLeast forms) = AreFormFracs forms
