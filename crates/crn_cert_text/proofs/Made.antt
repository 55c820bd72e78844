-- Proofs that are made: the lines of pairs one after another, and then those of the tree.
use Rattle.std.proofs.Common.{◌≡◌, inl, inr, ℕ, zero, suc, ◌+◌, ◌<◌, List, [], ◌∷◌, ◌++◌, length, get_or, take, refl, sym, ap, ◌∙◌, subst, arith}
use Rattle.std.specs.Prelude.{ℤ, All}
use Rattle.std.specs.Global.{Vec}
use Rattle.std.specs.List.{flat_map, range_with_len}
use Rattle.std.proofs.lemmas.List.{append_assoc, append-nil, take_more}
use Rattle.std.proofs.lemmas.List.Concat.{flat_map-append}
use Rattle.std.proofs.lemmas.List.Elements.{All-nil, All-cons, All-head, All-tail}
use Rattle.crn_linear.specs.Rows.{Row}
use Rattle.crn_formula.specs.Pieces.{Piece, Domain, Agree}
use Rattle.crn_formula.specs.Functions.{IsPieceOver}
use Rattle.crn_farkas.specs.Systems.{HasPoint}
use Rattle.crn_pieces.specs.Systems.{rows_of}
use Rattle.crn_pieces.specs.Choices.{IsAskedCover}
use Rattle.crn_pieces.specs.Pairs.{pairs_of, first_above, second_above, HaveNoPoint, IsAskedPair}
use Rattle.crn_pieces.specs.Answers.{IsUnsolved, IsRefusedPairs, refusal_of}
use Rattle.crn_pieces.specs.declared.questions.Unsolved.{Unsolved}
use Rattle.crn_pieces.specs.declared.questions.Unsolved.TheVariants as unsolved
use Rattle.crn_cert_text.specs.declared.ProofLine.{ProofLine}
use Rattle.crn_cert_text.specs.declared.ProofLine.TheVariants.{Pair}
use Rattle.crn_cert_text.specs.Proofs.{Line, pair, IsProofOf, Question, questions_of, AnswerPairs, lines_of, IsTree, IsProof}
use Rattle.crn_cert_text.specs.Making.{Answered, Grows}
use Rattle.crn_cert_text.specs.Views.{lines_of_proof}
use Rattle.crn_cert_text.specs.Answers.{IsUnmade, unmade_of}
use Rattle.crn_pieces.proofs.PairLaws.{agree_exactly}
use Rattle.crn_cert_text.proofs.Growing.{pushed_line}

-- ---- numbers
pub range_more : (a n m : ℕ) → m ≡ a + n → range_with_len a (n + 1) ≡ range_with_len a n ++ m ∷ []
range_more a zero m e = ap (λ (k : ℕ). k ∷ []) (omega (arith, e))
range_more a (suc n) m e =
    let s : suc n + 1 ≡ suc (n + 1) = omega arith in
    ap (range_with_len a) s ∙ ap (λ (ns : List ℕ). a ∷ ns) (range_more (a + 1) n m (omega (arith, e)))

-- ---- lines of pairs
pub answered_begin : (lines : List Line) → Answered [] lines lines
answered_begin lines = record { lines = []; added = sym (append-nil lines); answered = tt }

answer_both : (qs rs : List Question) (xs ys : List Line) → AnswerPairs qs xs → AnswerPairs rs ys → AnswerPairs (qs ++ rs) (xs ++ ys)
answer_both [] rs [] ys a b = b
answer_both [] rs (x ∷ xs) ys a b = absurd a
answer_both (q ∷ qs) rs [] ys a b = absurd a
answer_both (q ∷ qs) rs (x ∷ xs) ys a b = (a.0, answer_both qs rs xs ys a.1 b)

answered_both : (qs rs : List Question) (old middle new : List Line) → Answered qs old middle → Answered rs middle new → Answered (qs ++ rs) old new
answered_both qs rs old middle new a b = record {
  lines = a.lines ++ b.lines;
  added = b.added ∙ ap (λ l. l ++ b.lines) a.added ∙ append_assoc old a.lines b.lines;
  answered = answer_both qs rs a.lines b.lines a.answered b.answered;
}

module _ (D : Domain) (P : List Piece) where
  -- a line for each of the two questions of a pair
  pub pair_made : (q : ℕ × ℕ) (old middle new : List ProofLine) (m n : Vec ℤ) → middle ≡ old ++ Pair q.0 q.1 m ∷ [] → new ≡ middle ++ Pair q.1 q.0 n ∷ []
      → IsProofOf (first_above D P q) m.items → IsProofOf (second_above D P q) n.items → Answered (questions_of D P q) (lines_of_proof old) (lines_of_proof new)
  pair_made q old middle new m n e f a b =
      let one : Line = pair q.0 q.1 m.items in
      let two : Line = pair q.1 q.0 n.items in
      record {
        lines = one ∷ two ∷ [];
        added = pushed_line middle new (Pair q.1 q.0 n) f ∙ ap (λ l. l ++ two ∷ []) (pushed_line old middle (Pair q.0 q.1 m) e) ∙ append_assoc (lines_of_proof old) (one ∷ []) (two ∷ []);
        answered = ((refl, refl, a), ((refl, refl, b), tt));
      }

  -- the lines of one pair more
  pub pairs_made : (pairs : List (ℕ × ℕ)) (i : ℕ) (old middle new : List Line) → i < length pairs → Answered (flat_map (questions_of D P) (take i pairs)) old middle
      → Answered (questions_of D P (get_or pairs i (0, 0))) middle new → Answered (flat_map (questions_of D P) (take (i + 1) pairs)) old new
  pairs_made pairs i old middle new h a b =
      let q = get_or pairs i (0, 0) in
      let here : flat_map (questions_of D P) (take (i + 1) pairs) ≡ flat_map (questions_of D P) (take i pairs) ++ questions_of D P q =
      ap (flat_map (questions_of D P)) (take_more pairs i (0, 0) h) ∙ flat_map-append (questions_of D P) (take i pairs) (q ∷ []) in
      subst (λ (qs : List Question). Answered qs old new) (sym here) (answered_both (flat_map (questions_of D P) (take i pairs)) (questions_of D P q) old middle new a b)

  -- ---- the whole
  pub whole_made : (C : List (List Row)) (pairs : List (ℕ × ℕ)) (old middle new : List Line) → C ≡ rows_of P → pairs ≡ pairs_of (length P) → old ≡ [] → Answered (flat_map (questions_of D P) pairs) old middle → Grows D C [] middle new
      → IsProof D P new
  whole_made C pairs old middle new e f s a g = record {
    pairs = a.lines;
    tree = g.tree;
    all_lines = g.grown ∙ ap (λ l. l ++ lines_of g.tree) (a.added ∙ ap (λ l. l ++ a.lines) s);
    pairs_answered = subst (λ (qs : List (ℕ × ℕ)). AnswerPairs (flat_map (questions_of D P) qs) a.lines) f a.answered;
    is_tree = subst (λ (C : List (List Row)). IsTree D C [] 0 g.tree) e g.is_tree;
  }

  -- ---- what is asked
  from_systems : (qs : List (ℕ × ℕ)) → All (λ t. ¬ HasPoint t) (flat_map (λ q. first_above D P q ∷ second_above D P q ∷ []) qs) → All (HaveNoPoint D P) qs
  from_systems [] h = All-nil (HaveNoPoint D P)
  from_systems (q ∷ qs) h =
      let one = first_above D P q in
      let two = second_above D P q in
      let later = flat_map (λ r. first_above D P r ∷ second_above D P r ∷ []) qs in
      let rest = All-tail (λ t. ¬ HasPoint t) one (two ∷ later) h in
      All-cons (HaveNoPoint D P) q qs (All-head (λ t. ¬ HasPoint t) one (two ∷ later) h, All-head (λ t. ¬ HasPoint t) two later rest)
      (from_systems qs (All-tail (λ t. ¬ HasPoint t) two later rest))

  -- where pieces agree no pair has a point
  pub no_pair : (n : ℕ) → All (IsPieceOver n) P → Agree D P → All (HaveNoPoint D P) (pairs_of (length P))
  no_pair n over a = from_systems (pairs_of (length P)) ((agree_exactly D P n over).0 a)

  pub unsolved_pair : (u : Unsolved) → IsRefusedPairs D P (refusal_of u) → IsUnsolved (IsAskedPair D P) u
  unsolved_pair (unsolved.TooBig k) h = h
  unsolved_pair (unsolved.TooManyRows k) h = h
  unsolved_pair unsolved.Memory h = tt

  pub unmade_pair : (u : Unsolved) → IsUnsolved (IsAskedPair D P) u → IsUnmade D P (unmade_of u)
  unmade_pair (unsolved.TooBig k) h = (inl h.0, h.1)
  unmade_pair (unsolved.TooManyRows k) h = (inl h.0, h.1)
  unmade_pair unsolved.Memory h = tt

  pub unmade_tree : (u : Unsolved) → Agree D P → IsUnsolved (IsAskedCover D (rows_of P)) u → IsUnmade D P (unmade_of u)
  unmade_tree (unsolved.TooBig k) a h = (inr (a, h.0), h.1)
  unmade_tree (unsolved.TooManyRows k) a h = (inr (a, h.0), h.1)
  unmade_tree unsolved.Memory a h = tt
