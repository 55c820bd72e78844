use Rattle.std.proofs.Common.{◌≡◌, ◌≤◌, ◌<◌, ◌*◌, ◌∙◌, ℕ, List, [], length, drop, sym, ap, subst, arith}
use Rattle.std.specs.Prelude.{All}
use Rattle.std.proofs.lemmas.List.{length-map, take_rest}
use Rattle.crn_linear.specs.Rows.{Row}
use Rattle.crn_formula.specs.Pieces.{columns_of}
use Rattle.crn_formula.specs.Views.{piece_of, pieces_of}
use Rattle.crn_pieces.specs.Systems.{rows_of}
use Rattle.crn_pieces.specs.Pairs.{pairs_of}
use Rattle.crn_pieces.specs.Views.{lists_of}
use Rattle.crn_pieces.specs.Answers.{DoesDifferenceClear}
use Rattle.crn_pieces.proofs.Walk.{AreLong}
use Rattle.crn_cert_text.proofs.PairRows.{long_rows}
use Rattle.crn_cert_text.specs.declared.ProofLine.{ProofLine}
use Rattle.crn_cert_text.specs.Proofs.{place_of, first_part}
use Rattle.crn_cert_text.specs.Views.{lines_of_proof}
use Rattle.crn_cert_text.specs.Answers.{ArePairsDone, Verifies, IsRejected}
use Rattle.crn_cert_text.proofs.Whole.{few_pairs, verified}
use Rattle.crn_cert_text.proofs.OneVerdict.{accepted_covers, accepted_agree}
use Rattle.crn_cert_text.proofs.verify_pieces.Goals as goal
use Rattle.crn_cert_text.proofs.verify_pieces.Goals.{After-as_slice-3, After-as_slice-5}

pairs_are : (c : After-as_slice-3) → c.as_slice-3.result.now ≡ pairs_of (length c.args.pieces.now)
pairs_are c = c.as_slice-3.ensures.value ∙ c.in_ok-pairs.ensures

rows_are : (c : After-as_slice-5) → lists_of c.as_slice-5.result.now ≡ rows_of (pieces_of c.args.pieces.now)
rows_are c = ap lists_of c.as_slice-5.ensures.value ∙ c.in-Ok.ensures.0

pub verify_pairs-requires-clause-few_pairs : goal.verify_pairs-requires-clause-few_pairs
verify_pairs-requires-clause-few_pairs c =
    let s = (goal.at.verify_pairs-requires-clause-few_pairs c).After-as_slice-3 in
    let n = length c.args.pieces.now in
    let few : n ≤ 32 = omega (arith, c.requires.few.few, length-map c.args.pieces.now piece_of) in
    omega (arith, ap (length {A = ℕ × ℕ}) (pairs_are s), few_pairs 1 n (omega (arith, few)), few)

pub verify_tree-requires-clause-lengths : goal.verify_tree-requires-clause-lengths
verify_tree-requires-clause-lengths c =
    subst (All (AreLong (columns_of c.args.domain.now))) (sym (rows_are (goal.at.verify_tree-requires-clause-lengths c).After-as_slice-5))
    (long_rows (columns_of c.args.domain.now) (pieces_of c.args.pieces.now) c.requires.lengths)

pub returns-clause-verdict : goal.returns-clause-verdict
returns-clause-verdict c =
    let s = (goal.at.returns-clause-verdict c).After-as_slice-3 in
    let t = (goal.at.returns-clause-verdict c).After-as_slice-5 in
    let D = c.args.domain.now in
    let P = pieces_of c.args.pieces.now in
    let lines = c.args.lines.now in
    let m = 2 * c.len-taken.result in
    let e : c.as_slice.result.now ≡ pairs_of (length P) = c.as_slice.ensures.value ∙ c.in_ok-pairs.ensures ∙ ap pairs_of (sym (length-map c.args.pieces.now piece_of)) in
    let apart = subst (All (DoesDifferenceClear P)) e c.in-Ok-clear_differences.ensures.1 in
    let count : 2 * length c.as_slice-3.result.now ≡ m = omega (arith, c.len-taken.ensures, ap (length {A = ℕ × ℕ}) c.as_slice-3.ensures.value) in
    let done : ArePairsDone D P lines m = subst (ArePairsDone D P lines) count c.in_ok-verify_pairs.ensures in
    let some : 0 < length P = omega (arith, c.requires.few.some) in
    let C = lists_of c.as_slice-5.result.now in
    let rest = subst (λ (ls : List ProofLine). Verifies D C (place_of (first_part C [])) m (lines_of_proof ls) c.verify_tree.result) (take_rest lines m) c.verify_tree.ensures in
    verified D P lines some c.in-Ok.ensures.1 apart m done c.verify_tree.result
    (subst (λ (C : List (List Row)). Verifies D C (place_of (first_part C [])) m (lines_of_proof (drop m lines)) c.verify_tree.result) (rows_are t) rest)

pub returns-clause-covers : goal.returns-clause-covers
returns-clause-covers c =
    accepted_covers c.args.domain.now (pieces_of c.args.pieces.now) (lines_of_proof c.args.lines.now) c.inside.ensures.strictly c.requires.lengths (omega (arith, c.requires.few.some)) c.verify_tree.result
    (IsRejected c.args.domain.now (pieces_of c.args.pieces.now) (lines_of_proof c.args.lines.now)) (returns-clause-verdict c)

pub returns-clause-agree : goal.returns-clause-agree
returns-clause-agree c =
    accepted_agree c.args.domain.now (pieces_of c.args.pieces.now) (lines_of_proof c.args.lines.now) c.inside.ensures.strictly c.requires.lengths (omega (arith, c.requires.few.some)) c.verify_tree.result
    (IsRejected c.args.domain.now (pieces_of c.args.pieces.now) (lines_of_proof c.args.lines.now)) (returns-clause-verdict c)
