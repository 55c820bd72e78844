use Rattle.std.proofs.Common.{◌≤◌, ◌↔◌, sym, subst, List}
use Rattle.std.specs.Prelude.{IsTrue}
use Rattle.std.proofs.lemmas.List.{length-map}
use Rattle.crn_formula.specs.declared.pieces.Piece.{Piece}
use Rattle.crn_formula.specs.Functions.{IsWithinLimits, AreFewPieces, condition_count}
use Rattle.crn_formula.specs.Views.{kind_of, piece_of, pieces_of}
use Rattle.crn_formula.proofs.Lists.{All-map, sum_by-map}
use Rattle.crn_formula.proofs.function.FunctionKind.is_within_limits.Goals as goal

few : (pieces : List Piece) → AreFewPieces (λ p. condition_count (piece_of p)) pieces → AreFewPieces condition_count (pieces_of pieces)
few pieces h =
    let long = length-map pieces piece_of in
    record {
      some = subst (λ n. 1 ≤ n) (sym long) h.some;
      few = subst (λ n. n ≤ 32) (sym long) h.few;
      each = (All-map piece_of (λ p. condition_count p ≤ 16) pieces).0 h.each;
      together = subst (λ n. n ≤ 100) (sum_by-map piece_of condition_count pieces) h.together;
    }

back : (pieces : List Piece) → AreFewPieces condition_count (pieces_of pieces) → AreFewPieces (λ p. condition_count (piece_of p)) pieces
back pieces h =
    let long = length-map pieces piece_of in
    record {
      some = subst (λ n. 1 ≤ n) long h.some;
      few = subst (λ n. n ≤ 32) long h.few;
      each = (All-map piece_of (λ p. condition_count p ≤ 16) pieces).1 h.each;
      together = subst (λ n. n ≤ 100) (sym (sum_by-map piece_of condition_count pieces)) h.together;
    }

pub returns-in-Pieces : goal.returns-in-Pieces
returns-in-Pieces c =
    let known = subst (λ ps. IsTrue c.are_few_pieces.result ↔ AreFewPieces (λ p. condition_count (piece_of p)) ps) c.as_slice.ensures.value c.are_few_pieces.ensures in
    subst (λ k. IsTrue c.are_few_pieces.result ↔ IsWithinLimits c.args.affine (kind_of k)) (sym c.in-Pieces.is)
    (λ e. few c.in-Pieces.pieces.items (known.0 e), λ h. known.1 (back c.in-Pieces.pieces.items h))
