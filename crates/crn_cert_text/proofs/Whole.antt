-- The lines of pairs and those of the cover tree together.
use Rattle.std.proofs.Common.{◌≡◌, ℕ, zero, suc, ◌*◌, ◌<◌, ◌≤◌, List, [], ◌∷◌, ◌++◌, length, take, drop, refl, sym, ap, ◌∙◌, subst, arith}
use Rattle.std.specs.Prelude.{All, Result, Ok, Err, MatchResult}
use Rattle.std.proofs.lemmas.List.{append_assoc, take-append-drop, map-append, length-map, length-append, length-take-le}
use Rattle.crn_linear.specs.Rows.{Row}
use Rattle.crn_formula.specs.Pieces.{Piece, Domain}
use Rattle.crn_pieces.specs.Systems.{rows_of}
use Rattle.crn_pieces.specs.Pairs.{with_each, pairs_from, pairs_of}
use Rattle.crn_pieces.specs.Answers.{DoConditionsClear, DoesDifferenceClear, IsRefusedConditions, IsRefusedDifferences}
use Rattle.crn_pieces.specs.declared.PiecesError.{PiecesError}
use Rattle.crn_pieces.specs.declared.PiecesError.TheVariants as refused
use Rattle.crn_cert_text.specs.declared.ProofLine.{ProofLine}
use Rattle.crn_cert_text.specs.declared.VerifyError.{VerifyError}
use Rattle.crn_cert_text.specs.declared.VerifyError.TheVariants.{BigCondition, BigDifference, NotProved, Memory}
use Rattle.crn_cert_text.specs.Proofs.{Line, Place, ended, place_of, first_part, start, IsProof, FitInTurn, after_line, after_lines, Stops, IsFirstUnfit}
use Rattle.crn_cert_text.specs.Views.{line_of, lines_of_proof}
use Rattle.crn_cert_text.specs.Answers.{IsUnfitFrom, ArePairsDone, IsAccepted, IsRejected, Verifies, VerifiesPairs, unclear_of}
use Rattle.crn_cert_text.proofs.WalkLaws.{proof_exactly}

module _ (D : Domain) (C : List (List Row)) where
  fit_both : (place : Place) (a b : List Line) → FitInTurn D C place a → FitInTurn D C (after_lines C place a) b → FitInTurn D C place (a ++ b)
  fit_both place [] b f g = g
  fit_both place (line ∷ a) b f g = (f.0, fit_both (after_line C place line) a b f.1 g)

  after_both : (place : Place) (a b : List Line) → after_lines C place (a ++ b) ≡ after_lines C (after_lines C place a) b
  after_both place [] b = refl
  after_both place (line ∷ a) b = after_both (after_line C place line) a b

parted : (lines : List ProofLine) (m : ℕ) → lines_of_proof lines ≡ lines_of_proof (take m lines) ++ lines_of_proof (drop m lines)
parted lines m = ap lines_of_proof (sym (take-append-drop m lines)) ∙ map-append line_of (take m lines) (drop m lines)

module _ (D : Domain) (P : List Piece) (lines : List ProofLine) where
  -- what does not fit from the start is the first line that does not
  pub unfit_start : (n : ℕ) → IsUnfitFrom D (rows_of P) (start D P) 0 (lines_of_proof lines) n → IsFirstUnfit D P (lines_of_proof lines) n
  unfit_start n u = let c = u.counted in record { fitting = u.fitting; behind = u.behind; all_lines = u.all_lines; fit = u.fit; counted = omega (arith, c); stops = u.stops }

  module _ (m : ℕ) (done : ArePairsDone D P lines m) where
    -- the lines of pairs, and those of a whole tree
    pub whole_proof : 0 < length P → FitInTurn D (rows_of P) (place_of (first_part (rows_of P) [])) (lines_of_proof (drop m lines))
        → after_lines (rows_of P) (place_of (first_part (rows_of P) [])) (lines_of_proof (drop m lines)) ≡ ended → IsProof D P (lines_of_proof lines)
    whole_proof some f e =
        let C = rows_of P in
        let a = lines_of_proof (take m lines) in
        let b = lines_of_proof (drop m lines) in
        let fit : FitInTurn D C (start D P) (a ++ b) = fit_both D C (start D P) a b done.fit (subst (λ (p : Place). FitInTurn D C p b) (sym done.place) f) in
        let after : after_lines C (start D P) (a ++ b) ≡ ended = after_both D C (start D P) a b ∙ ap (λ (p : Place). after_lines C p b) done.place ∙ e in
        (proof_exactly D P (lines_of_proof lines) some).1
        (subst (λ (ls : List Line). FitInTurn D C (start D P) ls × (after_lines C (start D P) ls ≡ ended)) (sym (parted lines m)) (fit, after))

    -- and the first that does not fit
    pub unfit_tree : (n : ℕ) → IsUnfitFrom D (rows_of P) (place_of (first_part (rows_of P) [])) m (lines_of_proof (drop m lines)) n → IsFirstUnfit D P (lines_of_proof lines) n
    unfit_tree n u =
        let C = rows_of P in
        let a = lines_of_proof (take m lines) in
        let long : length a ≡ m = length-map (take m lines) line_of ∙ length-take-le m lines done.within in
        let c = u.counted in
        record {
          fitting = a ++ u.fitting;
          behind = u.behind;
          all_lines = parted lines m ∙ ap (λ ls. a ++ ls) u.all_lines ∙ sym (append_assoc a u.fitting u.behind);
          fit = fit_both D C (start D P) a u.fitting done.fit (subst (λ (p : Place). FitInTurn D C p u.fitting) (sym done.place) u.fit);
          counted = omega (arith, c, long, length-append a u.fitting);
          stops = subst (λ (p : Place). Stops D C p u.behind) (sym (after_both D C (start D P) a u.fitting ∙ ap (λ (p : Place). after_lines C p u.fitting) done.place)) u.stops;
        }

  -- ---- refusals of clearing
  pub unclear_conditions : (e : PiecesError) → IsRefusedConditions P e → IsRejected D P (lines_of_proof lines) (unclear_of e)
  unclear_conditions (refused.BigCondition i c) h = h
  unclear_conditions (refused.TooManyForms n) h = tt
  unclear_conditions (refused.BigDifference i j) h = absurd h
  unclear_conditions (refused.Disagree i j p) h = tt
  unclear_conditions (refused.NotCovered p) h = tt
  unclear_conditions (refused.TooBig s) h = tt
  unclear_conditions (refused.TooManyRows s) h = tt
  unclear_conditions refused.Memory h = tt

  pub unclear_differences : All DoConditionsClear P → (e : PiecesError) → IsRefusedDifferences P e → IsRejected D P (lines_of_proof lines) (unclear_of e)
  unclear_differences clear (refused.BigDifference i j) h = (clear, h)
  unclear_differences clear (refused.BigCondition i c) h = absurd h
  unclear_differences clear (refused.TooManyForms n) h = tt
  unclear_differences clear (refused.Disagree i j p) h = tt
  unclear_differences clear (refused.NotCovered p) h = tt
  unclear_differences clear (refused.TooBig s) h = tt
  unclear_differences clear (refused.TooManyRows s) h = tt
  unclear_differences clear refused.Memory h = tt

  -- ---- refusals of lines
  pub rejected_pairs : All DoConditionsClear P → All (DoesDifferenceClear P) (pairs_of (length P)) → (count : ℕ) (e : VerifyError) → VerifiesPairs D P lines count (Err e) → IsRejected D P (lines_of_proof lines) e
  rejected_pairs clear apart count (NotProved n) h = (clear, apart, unfit_start n h)
  rejected_pairs clear apart count (BigCondition i c) h = absurd h
  rejected_pairs clear apart count (BigDifference i j) h = absurd h
  rejected_pairs clear apart count Memory h = tt

  pub rejected_tree : All DoConditionsClear P → All (DoesDifferenceClear P) (pairs_of (length P)) → (m : ℕ) → ArePairsDone D P lines m → (e : VerifyError)
      → Verifies D (rows_of P) (place_of (first_part (rows_of P) [])) m (lines_of_proof (drop m lines)) (Err e) → IsRejected D P (lines_of_proof lines) e
  rejected_tree clear apart m done (NotProved n) h = (clear, apart, unfit_tree m done n h)
  rejected_tree clear apart m done (BigCondition i c) h = absurd h
  rejected_tree clear apart m done (BigDifference i j) h = absurd h
  rejected_tree clear apart m done Memory h = tt

  -- what is answered to the tree is answered to the whole
  pub verified : 0 < length P → All DoConditionsClear P → All (DoesDifferenceClear P) (pairs_of (length P)) → (m : ℕ) → ArePairsDone D P lines m → (r : Result (Unit {0}) VerifyError)
      → Verifies D (rows_of P) (place_of (first_part (rows_of P) [])) m (lines_of_proof (drop m lines)) r → MatchResult r (λ _. IsAccepted D P (lines_of_proof lines)) (IsRejected D P (lines_of_proof lines))
  verified some clear apart m done (Ok u) h = record { conditions = clear; differences = apart; proved = whole_proof m done some h.0 h.1 }
  verified some clear apart m done (Err e) h = rejected_tree clear apart m done e h

-- ---- how many pairs there are
length-with_each : (i j m : ℕ) → length (with_each i j m) ≡ m
length-with_each i j zero = refl
length-with_each i j (suc m) = ap suc (length-with_each i (suc j) m)

pub few_pairs : (i m : ℕ) → m ≤ 33 → length (pairs_from i m) ≤ m * 32
few_pairs i zero h = omega arith
few_pairs i (suc m) h =
    let r = few_pairs (suc i) m (omega arith) in
    omega (arith, r, length-append (with_each i (suc i) m) (pairs_from (suc i) m), length-with_each i (suc i) m)
