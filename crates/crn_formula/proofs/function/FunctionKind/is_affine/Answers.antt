use Rattle.std.proofs.Common.{◌∙◌, ap, sym}
use Rattle.std.specs.List.{list_any}
use Rattle.crn_formula.specs.Functions.{is_affine, piece_has_constant}
use Rattle.crn_formula.specs.Views.{kind_of, piece_of}
use Rattle.crn_formula.proofs.Lists.{list_any-map}
use Rattle.crn_formula.proofs.function.FunctionKind.is_affine.Goals as goal

pub returns-in-Pieces : goal.returns-in-Pieces
returns-in-Pieces c =
    c.some_piece_has_constant.ensures ∙ ap (list_any (λ p. piece_has_constant c.args.variables (piece_of p))) c.as_slice.ensures.value
    ∙ sym (list_any-map piece_of (piece_has_constant c.args.variables) c.in-Pieces.pieces.items)
    ∙ ap (λ k. is_affine c.args.variables (kind_of k)) (sym c.in-Pieces.is)
