-- Pieces that were checked have a proof, or elimination meets a limit on a system that may be asked.
use Rattle.std.proofs.Common.{◌≡◌, ◌⊎◌, inl, inr, ⊎_elim, ℕ, zero, suc, ◌+◌, ◌<◌, List, [], ◌∷◌, ◌++◌, length, Result, Ok, Err, refl, sym, ◌∙◌, subst, arith}
use Rattle.std.specs.Prelude.{ℤ, All, ◌≢◌}
use Rattle.std.specs.List.{flat_map}
use Rattle.std.proofs.lemmas.Bool.{cases_eq}
use Rattle.std.proofs.lemmas.List.{append_assoc, length-map, length_push}
use Rattle.std.proofs.lemmas.List.Elements.{All-head}
use Rattle.crn_linear.specs.Rows.{Row}
use Rattle.crn_farkas.specs.Systems.{System, IsRectangular, HasPoint}
use Rattle.crn_feasible.specs.Elimination.{Stop, refuted, passes, too_many, elimination}
use Rattle.crn_feasible.proofs.Points.{full_rows, elimination_meets}
use Rattle.crn_feasible.proofs.Certificates.{elimination_refutes}
use Rattle.crn_feasible.proofs.Long.{elimination-long}
use Rattle.crn_simplex.proofs.Decisions.{Stops, StopsAt}
use Rattle.crn_formula.specs.Pieces.{Piece, Domain, IsDomain, columns_of}
use Rattle.crn_pieces.specs.Systems.{condition_rows, rows_of, cover_system}
use Rattle.crn_pieces.specs.Choices.{AreChoices, IsFull, IsAskedCover}
use Rattle.crn_pieces.specs.Pairs.{pairs_of, HaveNoPoint, first_above, second_above, IsAskedPair}
use Rattle.crn_pieces.specs.Answers.{AreChecked, IsAsked}
use Rattle.crn_pieces.proofs.MeetLaws.{All_left, All_right}
use Rattle.crn_pieces.proofs.Walk.{AreChoices-next, walk_found}
use Rattle.crn_pieces.proofs.Covered.{covers_exactly}
use Rattle.crn_pieces.proofs.PairLaws.{asked_first, asked_second}
use Rattle.crn_pieces.proofs.GapSteps.{domain_point}
use Rattle.crn_cert_text.specs.declared.making.MakeError.{MakeError}
use Rattle.crn_cert_text.specs.declared.making.MakeError.TheVariants.{TooBig, TooManyRows, Memory}
use Rattle.crn_cert_text.specs.Proofs.{Line, pair, IsProofOf, questions_of, AnswerPairs, Parts, none, closed, opened, lines_of, next_count, IsTree, IsProof}
use Rattle.crn_cert_text.specs.Answers.{IsUnmade}
use Rattle.crn_cert_text.proofs.PairRows.{long_rows}
use Rattle.crn_cert_text.proofs.Sound.{AreRectangular, all_rectangular, rectangular}
use Rattle.crn_cert_text.proofs.Made.{no_pair}
use Rattle.crn_cert_text.proofs.SmallCertificates.{elimination_small}

-- ---- one system
-- it has a point, or multipliers that prove that it has none, or elimination meets a limit
data Outcome (s : System) : Type 0 where
  has_point : HasPoint s → Outcome s
  is_proved : (c : List ℤ) → IsProofOf s c → Outcome s
  has_limit : Stops s → Outcome s

outcome : (s : System) → IsRectangular s → Outcome s
outcome s even = go (elimination s) refl
  where
    go : (r : Result (List ℤ) Stop) → elimination s ≡ r → Outcome s
    go (Ok p) e = has_point (p, record { long = elimination-long s p e; meets = elimination_meets s p (full_rows s even) e })
    go (Err (refuted c)) e = is_proved c (record { small = elimination_small s c e; certificate = elimination_refutes s c e })
    go (Err passes) e = has_limit (inl e)
    go (Err too_many) e = has_limit (inr e)

module _ (D : Domain) (P : List Piece) where
  -- ---- pairs
  module _ (free : All (HaveNoPoint D P) (pairs_of (length P))) (even : All (AreRectangular D P) (pairs_of (length P))) where
    abbrev Answered : List (ℕ × ℕ) → Type 0
    Answered qs = (lines : List Line) × AnswerPairs (flat_map (questions_of D P) qs) lines

    pair_proved : (done rest : List (ℕ × ℕ)) (q : ℕ × ℕ) → pairs_of (length P) ≡ done ++ q ∷ rest → Answered rest → Answered (q ∷ rest) ⊎ StopsAt (IsAskedPair D P)
    pair_proved done rest q e more = go (outcome (first_above D P q) rows.0) (outcome (second_above D P q) rows.1)
      where
        none_of : All (HaveNoPoint D P) (done ++ q ∷ rest)
        none_of = subst (All (HaveNoPoint D P)) e free

        before : All (HaveNoPoint D P) done
        before = All_left (HaveNoPoint D P) done (q ∷ rest) none_of

        here : HaveNoPoint D P q
        here = All-head (HaveNoPoint D P) q rest (All_right (HaveNoPoint D P) done (q ∷ rest) none_of)

        rows : AreRectangular D P q
        rows = All-head (AreRectangular D P) q rest (All_right (AreRectangular D P) done (q ∷ rest) (subst (All (AreRectangular D P)) e even))

        go : Outcome (first_above D P q) → Outcome (second_above D P q) → Answered (q ∷ rest) ⊎ StopsAt (IsAskedPair D P)
        go (has_point p) two = absurd (here.0 p)
        go (has_limit l) two = inr (first_above D P q, asked_first D P done rest q e before, l)
        go (is_proved c h) (has_point p) = absurd (here.1 p)
        go (is_proved c h) (has_limit l) = inr (second_above D P q, asked_second D P done rest q e before here.0, l)
        go (is_proved c h) (is_proved d g) = inl (pair q.0 q.1 c ∷ pair q.1 q.0 d ∷ more.0, ((refl, refl, h), ((refl, refl, g), more.1)))

    pairs_proved : (done rest : List (ℕ × ℕ)) → pairs_of (length P) ≡ done ++ rest → Answered rest ⊎ StopsAt (IsAskedPair D P)
    pairs_proved done [] e = inl ([], tt)
    pairs_proved done (q ∷ rest) e =
        ⊎_elim (λ (more : Answered rest). pair_proved done rest q e more) (λ (stop : StopsAt (IsAskedPair D P)). inr stop)
        (pairs_proved (done ++ q ∷ []) rest (e ∙ sym (append_assoc done (q ∷ []) rest)))

  -- ---- the cover tree
  module _ (free : (full : List ℕ) → IsFull (rows_of P) full → ¬ HasPoint (cover_system D (rows_of P) full)) (even : (ks : List ℕ) → IsRectangular (cover_system D (rows_of P) ks)) where
    abbrev C : List (List Row)
    C = rows_of P

    -- the parts from a number on, or a limit
    abbrev Grown : List ℕ → ℕ → Type 0
    Grown ks k = ((t : Parts) × IsTree D C ks k t) ⊎ StopsAt (IsAskedCover D C)

    -- where no full list has a point there is a further piece
    further : (ks : List ℕ) (k : ℕ) → AreChoices C ks → length ks < length C → k < next_count C ks → HasPoint (cover_system D C (ks ++ k ∷ [])) → suc (length ks) < length C
    further ks k a l b h =
        ⊎_elim (λ (e : suc (length ks) ≡ length C). let f = walk_found D C ks k h.0 a b e h.1 in absurd (free f.0 f.1 (h.0, f.2)))
        (λ (n : suc (length ks) ≢ length C). omega arith)
        (cases_eq (suc (length ks)) (length C))

    module _ (ks : List ℕ) (chosen : AreChoices C ks) (deeper : length ks < length C) (point : HasPoint (cover_system D C ks))
        (within : (k : ℕ) → k < next_count C ks → suc (length ks) < length C → HasPoint (cover_system D C (ks ++ k ∷ [])) → Grown (ks ++ k ∷ []) 0) where
      asked : (k : ℕ) → k < next_count C ks → IsAskedCover D C (cover_system D C (ks ++ k ∷ []))
      asked k l = record { choices = ks; last = k; chosen = AreChoices-next C ks k chosen deeper l; is_cover = refl; without_last = point; none_before = λ full f b. free full f }

      -- the part of a number and those behind it
      part_grown : (k : ℕ) → k < next_count C ks → Grown ks (suc k) → Grown ks k
      part_grown k l (inr stop) = inr stop
      part_grown k l (inl (t, rest)) = go (outcome (cover_system D C (ks ++ k ∷ [])) (even (ks ++ k ∷ [])))
        where
          split_on : suc (length ks) < length C → Grown (ks ++ k ∷ []) 0 → Grown ks k
          split_on d (inl (i, inner)) = inl (opened i t, (l, d, inner, rest))
          split_on d (inr stop) = inr stop

          go : Outcome (cover_system D C (ks ++ k ∷ [])) → Grown ks k
          go (has_point p) = let d = further ks k chosen deeper l p in split_on d (within k l d p)
          go (is_proved c h) = inl (closed c t, (l, h, rest))
          go (has_limit stop) = inr (cover_system D C (ks ++ k ∷ []), asked k l, stop)

      parts_grown : (m k : ℕ) → k + m ≡ next_count C ks → Grown ks k
      parts_grown zero k e = inl (none, omega (arith, e))
      parts_grown (suc m) k e = part_grown k (omega (arith, e)) (parts_grown m (suc k) (omega (arith, e)))

    grown : (depth : ℕ) (ks : List ℕ) → length ks + suc depth ≡ length C → AreChoices C ks → HasPoint (cover_system D C ks) → Grown ks 0
    grown zero ks e chosen point = parts_grown ks chosen (omega (arith, e)) point (λ k l d p. absurd (omega (arith, e, d))) (next_count C ks) 0 (omega arith)
    grown (suc depth) ks e chosen point =
        parts_grown ks chosen (omega (arith, e)) point
        (λ k l d p. grown depth (ks ++ k ∷ []) (omega (arith, e, length_push ks k)) (AreChoices-next C ks k chosen (omega (arith, e)) l) p)
        (next_count C ks) 0 (omega arith)

    tree_grown : IsDomain D → 0 < length P → Grown [] 0
    tree_grown is some = go (length C) refl
      where
        go : (m : ℕ) → length C ≡ m → Grown [] 0
        go zero e = absurd (omega (arith, e, some, length-map P condition_rows))
        go (suc depth) e = grown depth [] (omega (arith, e)) tt (domain_point D C is)

  -- ---- the whole
  abbrev pub HasCause : Type 0
  HasCause = (e : MakeError) × (e ≢ Memory) × IsUnmade D P e

  stopped : StopsAt (IsAsked D P) → HasCause
  stopped (s, asked, inl e) = (TooBig (record { system = s; room = 0 }), (λ is. cc is), (asked, e))
  stopped (s, asked, inr e) = (TooManyRows (record { system = s; room = 0 }), (λ is. cc is), (asked, e))

  pub some_proof : AreChecked D P → 0 < length P → ((lines : List Line) × IsProof D P lines) ⊎ HasCause
  some_proof checked some = with_pairs (pairs_proved free_pairs even_pairs [] (pairs_of (length P)) refl)
    where
      free_pairs : All (HaveNoPoint D P) (pairs_of (length P))
      free_pairs = no_pair D P (columns_of D) checked.long checked.agree

      even_pairs : All (AreRectangular D P) (pairs_of (length P))
      even_pairs = all_rectangular D P checked.is_domain checked.long

      free_full : (full : List ℕ) → IsFull (rows_of P) full → ¬ HasPoint (cover_system D (rows_of P) full)
      free_full = (covers_exactly D P).0 checked.covers

      even_cover : (ks : List ℕ) → IsRectangular (cover_system D (rows_of P) ks)
      even_cover = rectangular D (rows_of P) (long_rows (columns_of D) P checked.long) checked.is_domain.long

      with_tree : (pairs : List Line) → AnswerPairs (flat_map (questions_of D P) (pairs_of (length P))) pairs → Grown free_full even_cover [] 0 → ((lines : List Line) × IsProof D P lines) ⊎ HasCause
      with_tree pairs answered (inl (t, is)) = inl (pairs ++ lines_of t, record { pairs = pairs; tree = t; all_lines = refl; pairs_answered = answered; is_tree = is })
      with_tree pairs answered (inr (s, asked, stops)) = inr (stopped (s, inr (checked.agree, asked), stops))

      with_pairs : Answered free_pairs even_pairs (pairs_of (length P)) ⊎ StopsAt (IsAskedPair D P) → ((lines : List Line) × IsProof D P lines) ⊎ HasCause
      with_pairs (inl (pairs, answered)) = with_tree pairs answered (tree_grown free_full even_cover checked.is_domain some)
      with_pairs (inr (s, asked, stops)) = inr (stopped (s, inl asked, stops))
