use Rattle.std.proofs.Common.{map, refl, sym, ◌∙◌, arith}
use Rattle.std.proofs.lemmas.Simd.{map-map}
use Rattle.crn_formula.specs.Views.{piece_of}
use Rattle.crn_function_text.specs.Columns.{narrow_piece}
use Rattle.crn_function_text.proofs.Slots.{replaced, all_replaced}
use Rattle.crn_function_text.proofs.columns.narrow_pieces.Goals as goal

pub loop-piece-preserved : goal.loop-piece-preserved
loop-piece-preserved c =
    replaced piece_of (λ p. narrow_piece c.args.variables (piece_of p)) c.loop-piece.pieces c.loop-piece.piece-index c.narrow_piece.new.piece c.piece-item.result (omega arith) c.narrow_piece.ensures
    ∙ c.loop-piece.invariant

pub loop-piece-init : goal.loop-piece-init
loop-piece-init c = refl

pub returns : goal.returns
returns c =
    all_replaced piece_of (λ p. narrow_piece c.args.variables (piece_of p)) c.loop-piece.pieces c.loop-piece.piece-index (map (λ p. narrow_piece c.args.variables (piece_of p)) c.args.pieces.now) (omega arith) c.loop-piece.invariant
    ∙ sym (map-map (narrow_piece c.args.variables) piece_of c.args.pieces.now)
