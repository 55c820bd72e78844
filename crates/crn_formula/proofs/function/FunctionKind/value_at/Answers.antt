use Rattle.std.proofs.Common.{sym, subst, length}
use Rattle.std.specs.Prelude.{All}
use Rattle.crn_formula.specs.Functions.{IsKindOver, IsPieceOver}
use Rattle.crn_formula.specs.Views.{kind_of, piece_of}
use Rattle.crn_formula.proofs.Lists.{All-map}
use Rattle.crn_formula.proofs.function.FunctionKind.value_at.Goals as goal

pub first_value-requires : goal.first_value-requires
first_value-requires c =
    let P = IsPieceOver (length c.args.x.now) in
    let over = subst (λ k. IsKindOver (length c.args.x.now) (kind_of k)) c.in-Pieces.is c.requires.columns in
    subst (λ ps. All (λ p. P (piece_of p)) ps) (sym c.as_slice.ensures.value) ((All-map piece_of P c.in-Pieces.pieces.items).1 over)
