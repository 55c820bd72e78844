-- The plain formulas, pieces and functions that the code's values stand for.
use Rattle.std.specs.Prelude.{◌≡◌, ℕ, ◌⊎◌, List, map}
use Rattle.crn_formula.specs.declared.formula.Formula.{Formula}
use Rattle.crn_formula.specs.declared.formula.Formula.TheVariants as tree
use Rattle.crn_formula.specs.declared.pieces.Piece.{Piece}
use Rattle.crn_formula.specs.declared.function.FunctionKind.{FunctionKind}
use Rattle.crn_formula.specs.declared.function.FunctionKind.TheVariants as given
use Rattle.crn_formula.specs.Formulas as plain
use Rattle.crn_formula.specs.Pieces as plain_pieces
use Rattle.crn_formula.specs.Functions.{Kind, ByFormula, ByPieces, ByLeast, IsFitting}
use Rattle.crn_formula.specs.Domains.{domain_for, IsOnOrthant}

-- the tree without its boxes
abbrev pub plain_of : Formula → plain.Formula
plain_of (tree.Lin form) = plain.Lin form
plain_of (tree.Add' p a q b) = plain.Add (plain_of a) (plain_of b)
plain_of (tree.Sub' p a q b) = plain.Sub (plain_of a) (plain_of b)
plain_of (tree.Scale' c p a) = plain.Scale c (plain_of a)
plain_of (tree.Min' p a q b) = plain.Min (plain_of a) (plain_of b)
plain_of (tree.Max' p a q b) = plain.Max (plain_of a) (plain_of b)

-- a piece with its list of conditions
abbrev pub piece_of : Piece → plain_pieces.Piece
piece_of piece = record { conditions = piece.conditions.items; form = piece.form }

-- a list of pieces
abbrev pub pieces_of : List Piece → List plain_pieces.Piece
pieces_of pieces = map piece_of pieces

-- a formula, pieces, or forms of which the least counts
abbrev pub kind_of : FunctionKind → Kind
kind_of (given.Formula e) = ByFormula (plain_of e)
kind_of (given.Pieces pieces) = ByPieces (pieces_of pieces.items)
kind_of (given.Direct forms) = ByLeast forms.items

-- a function: the number of its variables, its domain, and how it is given
pub record Function : Type 0 where
  pub variables : ℕ
  pub domain : plain_pieces.Domain
  pub kind : FunctionKind

-- the rule that every function keeps
pub record IsFunction (f : Function) : Type 0 where
  pub fitting : IsFitting f.variables (kind_of f.kind)
  pub domain : (f.domain ≡ domain_for f.variables (kind_of f.kind)) ⊎ IsOnOrthant f.variables f.domain (kind_of f.kind)
