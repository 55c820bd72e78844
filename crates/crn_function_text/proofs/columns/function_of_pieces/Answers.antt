use Rattle.std.proofs.Common.{sym, subst}
use Rattle.crn_formula.specs.Functions.{IsFitting, ByPieces}
use Rattle.crn_formula.specs.Views.{pieces_of}
use Rattle.crn_function_text.proofs.Narrowing.{kept_fits}
use Rattle.crn_function_text.proofs.columns.function_of_pieces.Goals as goal

pub of-requires : goal.of-requires
of-requires c =
    subst (λ ps. IsFitting c.args.variables (ByPieces ps)) (sym c.kept_columns.ensures)
    (kept_fits c.args.variables (pieces_of c.args.pieces.items) c.requires.some c.requires.few c.requires.kept)
