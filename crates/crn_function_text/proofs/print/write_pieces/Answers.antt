use Rattle.std.proofs.Common.{◌++◌, ◌∙◌, ap, sym, subst, string_bytes, take_all, append-nil, arith}
use Rattle.std.specs.Prelude.{All}
use Rattle.crn_token.specs.Printed.{printed}
use Rattle.crn_formula.proofs.Lists.{All-map}
use Rattle.std.specs.List.{flat_map}
use Rattle.crn_formula.specs.Views.{piece_of, pieces_of}
use Rattle.crn_function_text.specs.Printing.{piece_lines, ArePieceFracs}
use Rattle.crn_function_text.proofs.LinesWritten.{lines_step, all_step}
use Rattle.crn_function_text.proofs.print.write_pieces.Goals as goal

pub loop-piece-init : goal.loop-piece-init
loop-piece-init c = (sym (append-nil (string_bytes c.args.out.now)), λ i d within. absurd (omega arith))

pub loop-piece-preserved : goal.loop-piece-preserved
loop-piece-preserved c = (
  lines_step piece_of (piece_lines c.args.variables) (string_bytes c.args.out.now) (string_bytes c.loop-piece.out) (string_bytes c.write_piece.new.out) c.args.pieces.now c.loop-piece.piece-index c.piece-item.result
      c.loop-piece-test.true c.piece-item.is c.loop-piece.invariant.0 c.in_ok-write_piece.ensures.text,
  all_step (λ p. ArePieceFracs c.args.variables (piece_of p)) c.args.pieces.now c.loop-piece.piece-index c.piece-item.result c.loop-piece-test.true c.piece-item.is c.loop-piece.invariant.1 c.in_ok-write_piece.ensures.fits,
)

pub returns-clause-text : goal.returns-clause-text
returns-clause-text c = c.loop-piece.invariant.0 ∙ ap (λ xs. string_bytes c.args.out.now ++ printed (flat_map (piece_lines c.args.variables) (pieces_of xs))) (take_all c.loop-piece.piece-index c.args.pieces.now (omega (arith, c.loop-piece-test.false)))

pub returns-clause-fits : goal.returns-clause-fits
returns-clause-fits c = (All-map piece_of (ArePieceFracs c.args.variables) c.args.pieces.now).0 (subst (All (λ p. ArePieceFracs c.args.variables (piece_of p))) (take_all c.loop-piece.piece-index c.args.pieces.now (omega (arith, c.loop-piece-test.false))) c.loop-piece.invariant.1)
