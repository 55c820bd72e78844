-- What has a proof is covered and agreeing.
use Rattle.std.proofs.Common.{◌≡◌, ⊎_elim, ℕ, suc, ◌+◌, ◌-◌, ◌<◌, ◌≤◌, List, [], ◌∷◌, ◌++◌, length, get_or, sym, ◌∙◌, subst, arith}
use Rattle.std.specs.Prelude.{ℤ, ◌≢◌, All}
use Rattle.std.specs.List.{flat_map}
use Rattle.std.proofs.lemmas.Bool.{cases_eq}
use Rattle.std.proofs.lemmas.List.{append_assoc, length-append, length-map}
use Rattle.std.proofs.lemmas.List.Elements.{All-nil, All-cons, All-weaker, All-append, All-head, All-tail}
use Rattle.crn_linear.specs.Rows.{Row}
use Rattle.crn_farkas.specs.Systems.{IsRectangular, IsPointOf, HasPoint}
use Rattle.crn_farkas.proofs.Motzkin.{no_point}
use Rattle.crn_fraction.specs.Rational.{ℚ}
use Rattle.crn_formula.specs.Pieces.{Piece, Domain, IsDomain, Covers, Agree, columns_of}
use Rattle.crn_formula.specs.Functions.{IsPieceOver}
use Rattle.crn_linear.specs.FormRows.{above_row}
use Rattle.crn_pieces.specs.Systems.{condition_rows, rows_of, pair_system, cover_rows, cover_system}
use Rattle.crn_pieces.specs.Choices.{IsFull}
use Rattle.crn_pieces.specs.Pairs.{pairs_of, no_piece, piece_at, HaveNoPoint, AgreeEverywhere, first_above, second_above}
use Rattle.crn_pieces.proofs.Walk.{AreLong, point_of_beginning}
use Rattle.crn_pieces.proofs.SearchSteps.{long_cover}
use Rattle.crn_pieces.proofs.Covered.{covers_exactly}
use Rattle.crn_pieces.proofs.PairLaws.{IsPairWithin, pairs_within, piece_at-index, agree_without, Agree_from_pairs}
use Rattle.crn_linear.proofs.FormRows.{length-above}
use Rattle.crn_pieces.proofs.PairAsked.{long_conditions}
use Rattle.crn_cert_text.proofs.PairRows.{long_rows}
use Rattle.crn_cert_text.specs.Proofs.{Line, pair, close, split, IsProofOf, Question, questions_of, AnswersPair, AnswerPairs, Parts, none, closed, opened, next_count, IsTree, IsProof}

-- ---- the cover tree
-- a full list has at its next place the number of a condition
next_below : (C : List (List Row)) (ks : List ℕ) (j : ℕ) (rest : List ℕ) → IsFull C (ks ++ j ∷ rest) → j < next_count C ks
next_below [] [] j rest f = absurd f.chosen
next_below [] (k ∷ ks) j rest f = absurd f.chosen
next_below (rows ∷ C) [] j rest f = f.chosen.0
next_below (rows ∷ C) (k ∷ ks) j rest f = next_below C ks j rest (record { chosen = f.chosen.1; long = omega (arith, f.long) })

module _ (D : Domain) (C : List (List Row)) (long : All (AreLong (columns_of D)) C) (rows : AreLong (columns_of D) D.rows) where
  pub rectangular : (ks : List ℕ) → IsRectangular (cover_system D C ks)
  rectangular ks = record { lengths = All-append (λ (r : Row). length r.entries ≡ columns_of D) D.rows (cover_rows C ks) rows (long_cover (columns_of D) C ks long) }

  pub no_point_of : (ks : List ℕ) (c : List ℤ) → IsProofOf (cover_system D C ks) c → ¬ HasPoint (cover_system D C ks)
  no_point_of ks c p h = (no_point (cover_system D C ks) c (rectangular ks) p.certificate).whole h.0 h.1.meets

  moved : (ks : List ℕ) (j : ℕ) (rest : List ℕ) → ks ++ j ∷ rest ≡ (ks ++ j ∷ []) ++ rest
  moved ks j rest = sym (append_assoc ks (j ∷ []) rest)

  -- a part that is split: the full list goes on with one of the conditions of the next piece
  opened_refutes : (ks : List ℕ) (k j : ℕ) (rest : List ℕ) → suc (length ks) < length C → k ≡ j → IsFull C (ks ++ j ∷ rest) → HasPoint (cover_system D C (ks ++ j ∷ rest))
      → ((i : ℕ) (more : List ℕ) → IsFull C ((ks ++ k ∷ []) ++ i ∷ more) → ¬ HasPoint (cover_system D C ((ks ++ k ∷ []) ++ i ∷ more))) → ⊥
  opened_refutes ks k j [] d e f p inner = let g = f.long in absurd (omega (arith, d, g, length-append ks (j ∷ [])))
  opened_refutes ks k j (i ∷ more) d e f p inner =
      inner i more (subst (λ (n : ℕ). IsFull C ((ks ++ n ∷ []) ++ i ∷ more)) (sym e) (subst (IsFull C) (moved ks j (i ∷ more)) f))
      (subst (λ (n : ℕ). HasPoint (cover_system D C ((ks ++ n ∷ []) ++ i ∷ more))) (sym e) (subst (λ (ls : List ℕ). HasPoint (cover_system D C ls)) (moved ks j (i ∷ more)) p))

  -- no full list that goes on with one of the conditions of the parts has a point
  pub tree_refutes : (t : Parts) (ks : List ℕ) (k j : ℕ) (rest : List ℕ) → IsTree D C ks k t → k ≤ j → IsFull C (ks ++ j ∷ rest) → ¬ HasPoint (cover_system D C (ks ++ j ∷ rest))
  tree_refutes none ks k j rest h l f p = let b = next_below C ks j rest f in absurd (omega (arith, h, b))
  tree_refutes (closed c later) ks k j rest h l f p =
      ⊎_elim
      (λ (e : k ≡ j).
      let q : HasPoint (cover_system D C ((ks ++ j ∷ []) ++ rest)) = subst (λ (ls : List ℕ). HasPoint (cover_system D C ls)) (moved ks j rest) p in
      no_point_of (ks ++ k ∷ []) c h.1
      (q.0, subst (λ (n : ℕ). IsPointOf (cover_system D C (ks ++ n ∷ [])) q.0) (sym e) (point_of_beginning D C (ks ++ j ∷ []) rest q.0 q.1)))
      (λ (n : k ≢ j). tree_refutes later ks (suc k) j rest h.2 (omega arith) f p)
      (cases_eq k j)
  tree_refutes (opened inner later) ks k j rest h l f p =
      ⊎_elim (λ (e : k ≡ j). opened_refutes ks k j rest h.1 e f p (λ i more. tree_refutes inner (ks ++ k ∷ []) 0 i more h.2 (omega arith)))
      (λ (n : k ≢ j). tree_refutes later ks (suc k) j rest h.3 (omega arith) f p) (cases_eq k j)

  pub none_full : (t : Parts) → 0 < length C → IsTree D C [] 0 t → (full : List ℕ) → IsFull C full → ¬ HasPoint (cover_system D C full)
  none_full t some h [] f p = absurd (omega (arith, f.long))
  none_full t some h (j ∷ rest) f p = tree_refutes t [] 0 j rest h (omega arith) f p

-- ---- questions
module _ (D : Domain) (P : List Piece) where
  abbrev pub AreRectangular : ℕ × ℕ → Type 0
  AreRectangular q = IsRectangular (first_above D P q) × IsRectangular (second_above D P q)

  answered : (question : Question) (line : Line) → IsRectangular question.system → AnswersPair question line → ¬ HasPoint question.system
  answered question (pair a b c) r h p = (no_point question.system c r h.2.certificate).whole p.0 p.1.meets
  answered question (close c) r h p = h
  answered question split r h p = h

  pub none_answered : (qs : List (ℕ × ℕ)) (lines : List Line) → All AreRectangular qs → AnswerPairs (flat_map (questions_of D P) qs) lines → All (HaveNoPoint D P) qs
  none_answered [] lines r h = All-nil (HaveNoPoint D P)
  none_answered (q ∷ qs) [] r h = absurd h
  none_answered (q ∷ qs) (line ∷ []) r h = absurd h.1
  none_answered (q ∷ qs) (line ∷ other ∷ lines) r h =
      let here = All-head AreRectangular q qs r in
      All-cons (HaveNoPoint D P) q qs
      (answered (record { above = q.0; below = q.1; system = first_above D P q }) line here.0 h.0, answered (record { above = q.1; below = q.0; system = second_above D P q }) other here.1 h.1.0)
      (none_answered qs lines (All-tail AreRectangular q qs r) h.1.1)

  -- the systems of pairs have a column for each of the domain's
  module _ (domain : IsDomain D) (over : All (IsPieceOver (columns_of D)) P) where
    piece_over : (n : ℕ) → 1 ≤ n → n ≤ length P → IsPieceOver (columns_of D) (piece_at P n)
    piece_over n h l = subst (IsPieceOver (columns_of D)) (sym (piece_at-index P n h)) (over (n - 1) no_piece (omega arith))

    system_long : (a b : Piece) (above below : List ℚ) → IsPieceOver (columns_of D) a → IsPieceOver (columns_of D) b → length above ≡ columns_of D → length below ≡ columns_of D
        → IsRectangular (pair_system D a b above below)
    system_long a b above below p q e f =
        let Q = λ (r : Row). length r.entries ≡ columns_of D in
        record {
          lengths = All-append Q D.rows (condition_rows a ++ (condition_rows b ++ above_row above below ∷ [])) domain.long
              (All-append Q (condition_rows a) (condition_rows b ++ above_row above below ∷ []) (long_conditions (columns_of D) a p)
              (All-append Q (condition_rows b) (above_row above below ∷ []) (long_conditions (columns_of D) b q) (All-cons Q (above_row above below) [] (length-above above below (columns_of D) e f) (All-nil Q))));
        }

    within : (q : ℕ × ℕ) → IsPairWithin 1 (1 + length P) q → IsPieceOver (columns_of D) (piece_at P q.0) × IsPieceOver (columns_of D) (piece_at P q.1)
    within q w = (piece_over q.0 w.0 (omega (arith, w.1, w.2)), piece_over q.1 (omega (arith, w.0, w.1)) (omega (arith, w.2)))

    pub all_rectangular : All AreRectangular (pairs_of (length P))
    all_rectangular =
        All-weaker (IsPairWithin 1 (1 + length P)) AreRectangular
        (λ q w. let o = within q w in (
          system_long (piece_at P q.0) (piece_at P q.1) (piece_at P q.0).form (piece_at P q.1).form o.0 o.1 o.0.form o.1.form,
          system_long (piece_at P q.0) (piece_at P q.1) (piece_at P q.1).form (piece_at P q.0).form o.0 o.1 o.1.form o.0.form,
        ))
        (pairs_of (length P)) (pairs_within 1 (length P))

    -- what has a proof is covered and agreeing
    pub proof_means : (lines : List Line) → 0 < length P → IsProof D P lines → Covers D P × Agree D P
    proof_means lines some h =
        let none = none_answered (pairs_of (length P)) h.pairs all_rectangular h.pairs_answered in
        let agree : All (AgreeEverywhere D P) (pairs_of (length P)) = λ k d l.
        let o = within (get_or (pairs_of (length P)) k d) (pairs_within 1 (length P) k d l) in
        agree_without D P (get_or (pairs_of (length P)) k d) (o.0.form ∙ sym o.1.form) (none k d l) in
        let count : length (rows_of P) ≡ length P = length-map P condition_rows in (
          (covers_exactly D P).1 (none_full D (rows_of P) (long_rows (columns_of D) P over) domain.long h.tree (omega (arith, count, some)) h.is_tree),
          Agree_from_pairs D P agree,
        )
