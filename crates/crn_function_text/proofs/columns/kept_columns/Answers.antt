use Rattle.std.proofs.Common.{◌≡◌, ℕ, Bool, true, false, List, cond, map, sym, ◌∙◌, ap}
use Rattle.std.specs.List.{list_any}
use Rattle.crn_formula.specs.declared.pieces.Piece.{Piece}
use Rattle.crn_formula.specs.Functions.{piece_has_constant}
use Rattle.crn_formula.specs.Views.{piece_of, pieces_of}
use Rattle.crn_formula.proofs.Lists.{list_any-map}
use Rattle.crn_function_text.specs.Columns.{narrow_piece, kept_columns}
use Rattle.crn_function_text.proofs.columns.kept_columns.Goals as goal

-- whether some piece has a constant decides
by_constant : (k : ℕ) (ps : List Piece) (b : Bool) → b ≡ list_any (λ p. piece_has_constant k (piece_of p)) ps → kept_columns k (pieces_of ps) ≡ cond b (pieces_of ps) (map (narrow_piece k) (pieces_of ps))
by_constant k ps b is = ap (λ a. cond a (pieces_of ps) (map (narrow_piece k) (pieces_of ps))) (list_any-map piece_of (piece_has_constant k) ps ∙ sym is)

pub returns-then-some_piece_has_constant : goal.returns-then-some_piece_has_constant
returns-then-some_piece_has_constant c =
    sym (by_constant c.args.variables c.args.pieces.items true (sym c.if-some_piece_has_constant.true ∙ c.some_piece_has_constant.ensures ∙ ap (list_any (λ p. piece_has_constant c.args.variables (piece_of p))) c.deref.ensures.value))

pub returns-else-some_piece_has_constant : goal.returns-else-some_piece_has_constant
returns-else-some_piece_has_constant c =
    c.narrowed.ensures
    ∙ sym (by_constant c.args.variables c.args.pieces.items false (sym c.if-some_piece_has_constant.false ∙ c.some_piece_has_constant.ensures ∙ ap (list_any (λ p. piece_has_constant c.args.variables (piece_of p))) c.deref.ensures.value))
