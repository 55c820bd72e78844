use Rattle.std.proofs.Common.{◌↔◌, sym, subst}
use Rattle.std.specs.Prelude.{IsTrue, All}
use Rattle.crn_formula.specs.Functions.{IsKindOver, IsPieceOver}
use Rattle.crn_formula.specs.Views.{kind_of, piece_of}
use Rattle.crn_formula.proofs.Lists.{All-map}
use Rattle.crn_formula.proofs.function.FunctionKind.is_over.Goals as goal

pub returns-in-Pieces : goal.returns-in-Pieces
returns-in-Pieces c =
    let P = IsPieceOver c.args.columns in
    let over = subst (λ ps. IsTrue c.are_over.result ↔ All (λ p. P (piece_of p)) ps) c.as_slice.ensures.value c.are_over.ensures in
    let both = All-map piece_of P c.in-Pieces.pieces.items in
    subst (λ k. IsTrue c.are_over.result ↔ IsKindOver c.args.columns (kind_of k)) (sym c.in-Pieces.is)
    (λ e. both.0 (over.0 e), λ h. over.1 (both.1 h))
