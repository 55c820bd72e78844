use Rattle.std.proofs.Common.{◌≡◌, ◌∙◌, ℕ, List, length, sym, ap, subst, arith}
use Rattle.std.specs.Prelude.{All}
use Rattle.std.proofs.lemmas.List.{length-map}
use Rattle.std.proofs.lemmas.Result.{err_from_is_err_and}
use Rattle.crn_linear.specs.Rows.{Row}
use Rattle.crn_formula.specs.Pieces.{columns_of}
use Rattle.crn_formula.specs.Views.{piece_of, pieces_of}
use Rattle.crn_farkas.specs.Systems.{HasPoint}
use Rattle.crn_pieces.specs.Systems.{rows_of, cover_system}
use Rattle.crn_pieces.specs.Choices.{IsFull}
use Rattle.crn_pieces.specs.Pairs.{pairs_of, HaveNoPoint}
use Rattle.crn_pieces.specs.Views.{lists_of}
use Rattle.crn_pieces.proofs.Walk.{AreLong}
use Rattle.crn_pieces.proofs.Covered.{covers_exactly}
use Rattle.crn_cert_text.proofs.PairRows.{long_rows}
use Rattle.std.specs.List.{range_with_len}
use Rattle.crn_pieces.specs.Choices.{IsAskedCover}
use Rattle.crn_pieces.specs.Answers.{IsUnsolved}
use Rattle.crn_cert_text.specs.Views.{lines_of_proof}
use Rattle.crn_cert_text.proofs.Made.{no_pair, whole_made, unmade_pair, unmade_tree}
use Rattle.crn_cert_text.proofs.making.prove_pieces.Goals as goal
use Rattle.crn_cert_text.proofs.making.prove_pieces.Goals.{After-as_slice-2, After-as_slice-3}

pairs_are : (c : After-as_slice-2) → c.as_slice-2.result.now ≡ pairs_of (length (pieces_of c.args.pieces.now))
pairs_are c = c.as_slice-2.ensures.value ∙ c.in_ok-pairs.ensures ∙ ap pairs_of (sym (length-map c.args.pieces.now piece_of))

rows_are : (c : After-as_slice-3) → lists_of c.as_slice-3.result.now ≡ rows_of (pieces_of c.args.pieces.now)
rows_are c = ap lists_of c.as_slice-3.ensures.value ∙ c.in-Ok.ensures.0

pub make_pairs-requires-clause-none : goal.make_pairs-requires-clause-none
make_pairs-requires-clause-none c =
    let s = (goal.at.make_pairs-requires-clause-none c).After-as_slice-2 in
    subst (All (HaveNoPoint c.args.domain.now (pieces_of c.args.pieces.now))) (sym (pairs_are s))
    (no_pair c.args.domain.now (pieces_of c.args.pieces.now) (columns_of c.args.domain.now) c.requires.lengths c.requires.checked.agree)

pub make_tree-requires-clause-none : goal.make_tree-requires-clause-none
make_tree-requires-clause-none c =
    let s = (goal.at.make_tree-requires-clause-none c).After-as_slice-3 in
    subst (λ (C : List (List Row)). (full : List ℕ) → IsFull C full → ¬ HasPoint (cover_system c.args.domain.now C full)) (sym (rows_are s))
    ((covers_exactly c.args.domain.now (pieces_of c.args.pieces.now)).0 c.requires.checked.covers)

pub make_tree-requires-clause-lengths : goal.make_tree-requires-clause-lengths
make_tree-requires-clause-lengths c =
    subst (All (AreLong (columns_of c.args.domain.now))) (sym (rows_are (goal.at.make_tree-requires-clause-lengths c).After-as_slice-3))
    (long_rows (columns_of c.args.domain.now) (pieces_of c.args.pieces.now) c.requires.lengths)

pub returns-in_err-make_pairs : goal.returns-in_err-make_pairs
returns-in_err-make_pairs c =
    let p = err_from_is_err_and c.from_residual-in_err-make_pairs.result c.from_residual-in_err-make_pairs.ensures.1 in
    rw (p.1, p.2) (unmade_pair c.args.domain.now (pieces_of c.args.pieces.now) c.in_err-make_pairs.field-0.0 c.in_err-make_pairs.ensures)

pub returns-in_err-make_tree : goal.returns-in_err-make_tree
returns-in_err-make_tree c =
    let s = (goal.at.returns-in_err-make_tree c).After-as_slice-3 in
    let p = err_from_is_err_and c.from_residual-in_err-make_tree.result c.from_residual-in_err-make_tree.ensures.1 in
    let h = subst (λ (C : List (List Row)). IsUnsolved (IsAskedCover c.args.domain.now C) c.in_err-make_tree.field-0.0) (rows_are s) c.in_err-make_tree.ensures in
    rw (p.1, p.2) (unmade_tree c.args.domain.now (pieces_of c.args.pieces.now) c.in_err-make_tree.field-0.0 c.requires.checked.agree h)

pub returns : goal.returns
returns c =
    let s = (goal.at.returns c).After-as_slice-2 in
    let t = (goal.at.returns c).After-as_slice-3 in
    let count = c.in_ok-numbers.ensures in
    let long : c.len.result ≡ length c.make_tree.new.lines.items = omega (arith, c.len.ensures) in
    record {
      proof = whole_made c.args.domain.now (pieces_of c.args.pieces.now) (lists_of c.as_slice-3.result.now) c.as_slice-2.result.now _ _ _ (rows_are t) (pairs_are s) (ap lines_of_proof c.new-lines.ensures.items) c.in_ok-make_pairs.ensures c.in_ok-make_tree.ensures;
      numbers = count ∙ ap (range_with_len 1) long;
    }
