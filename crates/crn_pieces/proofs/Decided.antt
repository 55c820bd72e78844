-- Pieces are checked, or refused for a cause: what stands first of too many forms, a row that does not clear, a pair, a gap, and a limit of elimination.
use Rattle.std.proofs.Common.{◌≡◌, ◌⊎◌, inl, inr, ⊎_elim, ℕ, zero, suc, ◌+◌, ◌<◌, ◌≤◌, ◌^◌, List, [], ◌∷◌, ◌++◌, length, get_or, Ok, refl, sym, ap, ◌∙◌, subst, arith}
use Rattle.std.specs.Prelude.{ℤ, unsigned_abs, ◌≢◌, All}
use Rattle.std.proofs.lemmas.Bool.{cases_lt}
use Rattle.std.proofs.lemmas.List.{append-nil, append_assoc, length-map, length_push}
use Rattle.std.proofs.lemmas.List.Elements.{All-nil, All-cons, All-head, All-append, All-push, All-weaker}
use Rattle.crn_fraction.specs.Rational.{ℚ}
use Rattle.crn_linear.specs.Forms.{distinct_forms}
use Rattle.crn_linear.specs.Rows.{Row, IsSmall}
use Rattle.crn_linear.specs.Cleared.{cleared}
use Rattle.crn_linear.specs.FormRows.{above_row}
use Rattle.crn_farkas.specs.Systems.{System, IsRectangular, IsWholePoint, IsPointOf, HasPoint}
use Rattle.crn_feasible.specs.Elimination.{elimination}
use Rattle.crn_formula.specs.Pieces.{Piece, Domain, IsDomain, Covers, Agree, columns_of}
use Rattle.crn_formula.specs.Functions.{IsPieceOver}
use Rattle.crn_formula.proofs.Lists.{All-map}
use Rattle.crn_simplex.proofs.Decisions.{StopsAt, Decision, has_point, has_none, has_limit, decision, walk}
use Rattle.crn_pieces.specs.Systems.{condition_rows, rows_of, system_over, pair_system, cover_system}
use Rattle.crn_pieces.specs.Choices.{AreChoices, NoneBefore, NoneWithin, IsFullPoint, IsAskedCover}
use Rattle.crn_pieces.specs.Pairs.{pairs_of, piece_at, IsFirstWithout, AgreeEverywhere, first_above, second_above, IsAskedPair, HaveNoPoint}
use Rattle.crn_pieces.specs.Views.{forms_of}
use Rattle.crn_pieces.specs.Answers.{IsOwnPoint, IsFirstPoint, Clears, DoConditionsClear, DoesDifferenceClear, HasFewForms, IsPrepared, AreChecked, IsAsked, IsDisagreement, IsRefused}
use Rattle.crn_pieces.specs.declared.PiecesError.{PiecesError}
use Rattle.crn_pieces.specs.declared.PiecesError.TheVariants.{TooManyForms, BigCondition, BigDifference, Disagree, NotCovered, TooBig, TooManyRows, Memory}
use Rattle.crn_pieces.proofs.MeetLaws.{All_left, All_right}
use Rattle.crn_pieces.proofs.Walk.{AreLong, AreChoices-next, walk_begins, walk_in, walk_on, walk_out, walk_over, walk_found}
use Rattle.crn_pieces.proofs.SearchSteps.{long_cover}
use Rattle.crn_pieces.proofs.Covered.{full_point, covers_exactly}
use Rattle.crn_pieces.proofs.PairLaws.{IsPairWithin, pairs_within, piece_within, lengths_of, differ_exactly, agree_without, Agree_from_pairs, asked_first, asked_second}
use Rattle.crn_linear.proofs.FormRows.{length-above}
use Rattle.crn_pieces.proofs.PairAsked.{long_conditions}
use Rattle.crn_pieces.proofs.ClearSteps.{not_all}
use Rattle.crn_pieces.proofs.GapSteps.{domain_point}
use Rattle.crn_pieces.proofs.CloseForms.{close_forms}
use Rattle.crn_pieces.proofs.Refusals.{refused_gap}

-- why pieces are refused, want of memory aside
abbrev pub IsRefusedForCause : Domain → List Piece → Type 0
IsRefusedForCause D P = (e : PiecesError) × (e ≢ Memory) × IsRefused D P e

-- ---- one question

-- a point of elimination is its own
own_point : (s : System) (p : List ℤ) → elimination s ≡ Ok p → IsWholePoint s p → length p ≡ s.columns → IsOwnPoint s p
own_point s p e meets long = record { point = record { long = long; meets = meets }; own = λ q f. let g : Ok p ≡ Ok q = sym e ∙ f in cc }

-- the rows of a domain and others of its columns
over_domain : (D : Domain) (rows : List Row) → IsDomain D → AreLong (columns_of D) rows → IsRectangular (system_over D rows)
over_domain D rows is long = record { lengths = All-append (λ (r : Row). length r.entries ≡ columns_of D) D.rows rows is.long long }

-- a limit on a system that may be asked refuses the pieces
stopped : (D : Domain) (P : List Piece) → IsPrepared P → StopsAt (IsAsked D P) → IsRefusedForCause D P
stopped D P ready (s, asked, inl e) = (TooBig (record { system = s; room = 0 }), (λ is. cc is), (ready, asked, e))
stopped D P ready (s, asked, inr e) = (TooManyRows (record { system = s; room = 0 }), (λ is. cc is), (ready, asked, e))

-- ---- the first that fails

first_or_all : {X : Type 0} (P : X → Type 0) → ((x : X) → P x ⊎ (¬ P x)) → (xs : List X) → All P xs ⊎ ((x : X) × IsFirstWithout P xs x)
first_or_all P test [] = inl (All-nil P)
first_or_all {X} P test (x ∷ xs) = go (test x) (first_or_all P test xs)
  where
    go : P x ⊎ (¬ P x) → All P xs ⊎ ((y : X) × IsFirstWithout P xs y) → All P (x ∷ xs) ⊎ ((y : X) × IsFirstWithout P (x ∷ xs) y)
    go (inl h) (inl all) = inl (All-cons P x xs h all)
    go (inl h) (inr (y, f)) = inr (
      y,
      record {
        before = x ∷ f.before;
        behind = f.behind;
        place = ap (λ l. x ∷ l) f.place;
        earlier = All-cons P x f.before h f.earlier;
        without = f.without;
      },
    )
    go (inr n) rest = inr (x, record { before = []; behind = xs; place = refl; earlier = All-nil P; without = n })

all_or_not : {X : Type 0} (P : X → Type 0) → ((x : X) → P x ⊎ (¬ P x)) → (xs : List X) → All P xs ⊎ (¬ All P xs)
all_or_not {X} P test xs = ⊎_elim (λ (all : All P xs). inl all) (λ (f : (x : X) × IsFirstWithout P xs x). inr (not_all P xs f.0 f.1)) (first_or_all P test xs)

small_or_not : (z : ℤ) → IsSmall z ⊎ (¬ IsSmall z)
small_or_not z = ⊎_elim (λ (l : 2 ^ 59 < unsigned_abs z). inr (λ s. let h = s.size in absurd (omega (arith, l, h)))) (λ (l : unsigned_abs z ≤ 2 ^ 59). inl (record { size = l })) (cases_lt (2 ^ 59) (unsigned_abs z))

clears_or_not : (form : List ℚ) → Clears form ⊎ (¬ Clears form)
clears_or_not form = all_or_not IsSmall small_or_not (cleared form)

-- ---- what is looked at before anything is asked

module _ (D : Domain) (P : List Piece) where
  big_condition : HasFewForms P → (piece : Piece) → IsFirstWithout DoConditionsClear P piece → IsRefusedForCause D P
  big_condition few piece f = go (first_or_all Clears clears_or_not piece.conditions)
    where
      go : All Clears piece.conditions ⊎ ((c : List ℚ) × IsFirstWithout Clears piece.conditions c) → IsRefusedForCause D P
      go (inl all) = absurd (f.without all)
      go (inr (c, g)) = (
        BigCondition (length f.before + 1) (length g.before + 1),
        λ is. cc is,
        (few, record { piece = piece; condition = c; in_pieces = record { first = f; number = refl }; in_piece = record { first = g; number = refl } }),
      )

  -- the pieces are prepared, or refused before anything is asked
  prepared : IsPrepared P ⊎ IsRefusedForCause D P
  prepared =
      ⊎_elim (λ (many : 12 < length (distinct_forms (forms_of P))). inr (TooManyForms (length (distinct_forms (forms_of P))), (λ is. cc is), (many, refl)))
      (λ (few : HasFewForms P).
      conditions few (first_or_all DoConditionsClear (λ piece. all_or_not Clears clears_or_not piece.conditions) P))
      (cases_lt 12 (length (distinct_forms (forms_of P))))
    where
      differences : HasFewForms P → All DoConditionsClear P → All (DoesDifferenceClear P) (pairs_of (length P)) ⊎ ((q : ℕ × ℕ) × IsFirstWithout (DoesDifferenceClear P) (pairs_of (length P)) q) → IsPrepared P ⊎ IsRefusedForCause D P
      differences few clear (inl all) = inl (record { few = few; conditions = clear; differences = all })
      differences few clear (inr (q, f)) = inr (BigDifference q.0 q.1, (λ is. cc is), (few, clear, f))

      conditions : HasFewForms P → All DoConditionsClear P ⊎ ((piece : Piece) × IsFirstWithout DoConditionsClear P piece) → IsPrepared P ⊎ IsRefusedForCause D P
      conditions few (inl all) = differences few all (first_or_all (DoesDifferenceClear P) (λ q. all_or_not IsSmall small_or_not _) (pairs_of (length P)))
      conditions few (inr (piece, f)) = inr (big_condition few piece f)

-- ---- pairs

module _ (D : Domain) (is_domain : IsDomain D) (P : List Piece) (over : All (IsPieceOver (columns_of D)) P) where
  abbrev n : ℕ
  n = columns_of D

  abbrev Pairs : List (ℕ × ℕ)
  Pairs = pairs_of (length P)

  abbrev IsWithin : ℕ × ℕ → Type 0
  IsWithin q = IsPairWithin 1 (1 + length P) q

  within : All IsWithin Pairs
  within = pairs_within 1 (length P)

  long_pair : (a b : Piece) (above below : List ℚ) → IsPieceOver n a → IsPieceOver n b → length above ≡ n → length below ≡ n → IsRectangular (pair_system D a b above below)
  long_pair a b above below h k e f =
      let L = λ (r : Row). length r.entries ≡ n in
      over_domain D (condition_rows a ++ (condition_rows b ++ above_row above below ∷ [])) is_domain
      (All-append L (condition_rows a) (condition_rows b ++ above_row above below ∷ []) (long_conditions n a h)
      (All-append L (condition_rows b) (above_row above below ∷ []) (long_conditions n b k)
      (All-cons L (above_row above below) [] (length-above above below n e f) (All-nil L))))

  agree_each : (qs : List (ℕ × ℕ)) → All IsWithin qs → All (HaveNoPoint D P) qs → All (AgreeEverywhere D P) qs
  agree_each qs w h k d l = agree_without D P (get_or qs k d) (lengths_of D P n over (get_or qs k d) (w k d l)) (h k d l)

  -- the pieces of the first pairs agree, and those of the next differ at a point
  disagree : (done rest : List (ℕ × ℕ)) (q : ℕ × ℕ) → Pairs ≡ done ++ q ∷ rest → All (HaveNoPoint D P) done → IsWithin q → (p : List ℤ) → IsFirstPoint (first_above D P q) (second_above D P q) p
      → IsDisagreement D P q.0 q.1 p
  disagree done rest q e none w p f =
      let one = first_above D P q in
      let two = second_above D P q in
      let met : IsPointOf one p ⊎ IsPointOf two p = ⊎_elim (λ (u : IsOwnPoint one p). inl u.point) (λ (u : (¬ HasPoint one) × IsOwnPoint two p). inr u.1.point) f in
      let d = (differ_exactly D P q p (lengths_of D P n over q w)).0 met in
      record {
        first = record {
          before = done;
          behind = rest;
          place = e;
          earlier = agree_each done (All_left IsWithin done (q ∷ rest) (subst (All IsWithin) e within)) none;
          without = λ h. h p d;
        };
        differ = d;
        point = f;
      }

  abbrev IsRefusedByPair : Type 0
  IsRefusedByPair = ((i : ℕ) × (j : ℕ) × (p : List ℤ) × IsDisagreement D P i j p) ⊎ StopsAt (IsAskedPair D P)

  -- a pair has no point, or it refuses the pieces
  pair_decided : (done rest : List (ℕ × ℕ)) (q : ℕ × ℕ) → Pairs ≡ done ++ q ∷ rest → All (HaveNoPoint D P) done → HaveNoPoint D P q ⊎ IsRefusedByPair
  pair_decided done rest q e none = go (decision one even_one) (decision two even_two)
    where
      one : System
      one = first_above D P q

      two : System
      two = second_above D P q

      w : IsWithin q
      w = All-head IsWithin q rest (All_right IsWithin done (q ∷ rest) (subst (All IsWithin) e within))

      over_a : IsPieceOver n (piece_at P q.0)
      over_a = (piece_within D P n over q.0 w.0 (let h = w.1 in let k = w.2 in omega (arith, h, k))).0

      over_b : IsPieceOver n (piece_at P q.1)
      over_b = (piece_within D P n over q.1 (let h = w.0 in let k = w.1 in omega (arith, h, k)) (let k = w.2 in omega (arith, k))).0

      even_one : IsRectangular (first_above D P q)
      even_one = long_pair (piece_at P q.0) (piece_at P q.1) (piece_at P q.0).form (piece_at P q.1).form over_a over_b over_a.form over_b.form

      even_two : IsRectangular (second_above D P q)
      even_two = long_pair (piece_at P q.0) (piece_at P q.1) (piece_at P q.1).form (piece_at P q.0).form over_a over_b over_b.form over_a.form

      go : Decision (first_above D P q) → Decision (second_above D P q) → HaveNoPoint D P q ⊎ IsRefusedByPair
      go (has_point p f m l) second = inr (inl (q.0, q.1, p, disagree done rest q e none w p (inl (own_point (first_above D P q) p f m l))))
      go (has_limit h) second = inr (inr (first_above D P q, asked_first D P done rest q e none, h))
      go (has_none h) (has_point p f m l) =
          inr (inl (q.0, q.1, p, disagree done rest q e none w p (inr ((λ (k : HasPoint (first_above D P q)). h.whole k.0 k.1.meets), own_point (second_above D P q) p f m l))))
      go (has_none h) (has_none k) = inl ((λ (t : HasPoint (first_above D P q)). h.whole t.0 t.1.meets), (λ (t : HasPoint (second_above D P q)). k.whole t.0 t.1.meets))
      go (has_none h) (has_limit k) = inr (inr (second_above D P q, asked_second D P done rest q e none (λ (t : HasPoint (first_above D P q)). h.whole t.0 t.1.meets), k))

  pairs_decided : (done rest : List (ℕ × ℕ)) → Pairs ≡ done ++ rest → All (HaveNoPoint D P) done → All (HaveNoPoint D P) Pairs ⊎ IsRefusedByPair
  pairs_decided done [] e none = inl (subst (All (HaveNoPoint D P)) (sym (append-nil done) ∙ sym e) none)
  pairs_decided done (q ∷ rest) e none =
      ⊎_elim
      (λ (h : HaveNoPoint D P q). pairs_decided (done ++ q ∷ []) rest (e ∙ sym (append_assoc done (q ∷ []) rest)) (All-push (HaveNoPoint D P) done q none h))
      (λ (r : IsRefusedByPair). inr r)
      (pair_decided done rest q e none)

  -- ---- the search for a gap

  abbrev C : List (List Row)
  C = rows_of P

  long_rows : All (AreLong n) C
  long_rows = (All-map condition_rows (AreLong n) P).0 (All-weaker (IsPieceOver n) (λ (p : Piece). AreLong n (condition_rows p)) (long_conditions n) P over)

  even_cover : (ks : List ℕ) → IsRectangular (cover_system D C ks)
  even_cover ks = over_domain D _ is_domain (long_cover n C ks long_rows)

  -- the point of a full list, or a limit
  abbrev IsEnd : Type 0
  IsEnd = ((p : List ℤ) × IsFullPoint D C p) ⊎ StopsAt (IsAskedCover D C)

  abbrev Searched : List ℕ → Type 0
  Searched ks = NoneWithin D C ks ⊎ IsEnd

  next_before : (ks : List ℕ) (k : ℕ) → NoneBefore D C (ks ++ k ∷ []) → NoneWithin D C (ks ++ k ∷ []) → NoneBefore D C (ks ++ (k + 1) ∷ [])
  next_before ks k h w = let e : suc k ≡ k + 1 = omega arith in subst (λ (m : ℕ). NoneBefore D C (ks ++ m ∷ [])) e (walk_on D C ks k h w)

  -- all choices of one more condition, where the search goes on beyond each that has a point
  level : (ks : List ℕ) → length ks < length C → AreChoices C ks → HasPoint (cover_system D C ks) → NoneBefore D C ks
      → ((k : ℕ) → k < length (get_or C (length ks) []) → (p : List ℤ) → IsPointOf (cover_system D C (ks ++ k ∷ [])) p → NoneBefore D C (ks ++ k ∷ []) → Searched (ks ++ k ∷ []))
      → Searched ks
  level ks deeper chosen point before beyond =
      ⊎_elim (λ (h : NoneBefore D C (ks ++ length (get_or C (length ks) []) ∷ [])). inl (walk_out D C ks deeper h)) (λ (end : IsEnd). inr end)
      (walk (λ k. NoneBefore D C (ks ++ k ∷ [])) IsEnd (length (get_or C (length ks) [])) step (walk_in D C ks before))
    where
      on : (k : ℕ) → NoneBefore D C (ks ++ k ∷ []) → Searched (ks ++ k ∷ []) → NoneBefore D C (ks ++ (k + 1) ∷ []) ⊎ IsEnd
      on k h (inl none) = inl (next_before ks k h none)
      on k h (inr end) = inr end

      asked : (k : ℕ) → k < length (get_or C (length ks) []) → NoneBefore D C (ks ++ k ∷ []) → IsAskedCover D C (cover_system D C (ks ++ k ∷ []))
      asked k l h = record { choices = ks; last = k; chosen = AreChoices-next C ks k chosen deeper l; is_cover = refl; without_last = point; none_before = h }

      at_choice : (k : ℕ) → k < length (get_or C (length ks) []) → NoneBefore D C (ks ++ k ∷ []) → Decision (cover_system D C (ks ++ k ∷ [])) → NoneBefore D C (ks ++ (k + 1) ∷ []) ⊎ IsEnd
      at_choice k l h (has_point p f m long) = on k h (beyond k l p (record { long = long; meets = m }) h)
      at_choice k l h (has_none none) = inl (next_before ks k h (walk_over D C (ks ++ k ∷ []) (λ t. none.whole t.0 t.1.meets)))
      at_choice k l h (has_limit stops) = inr (inr (cover_system D C (ks ++ k ∷ []), asked k l h, stops))

      step : (k : ℕ) → k < length (get_or C (length ks) []) → NoneBefore D C (ks ++ k ∷ []) → NoneBefore D C (ks ++ (k + 1) ∷ []) ⊎ IsEnd
      step k l h = at_choice k l h (decision (cover_system D C (ks ++ k ∷ [])) (even_cover (ks ++ k ∷ [])))

  search : (depth : ℕ) (ks : List ℕ) → length ks + suc depth ≡ length C → AreChoices C ks → HasPoint (cover_system D C ks) → NoneBefore D C ks → Searched ks
  search zero ks e chosen point before =
      level ks (omega (arith, e)) chosen point before (λ k l p h none. inr (inl (p, walk_found D C ks k p chosen l (omega (arith, e)) h)))
  search (suc depth) ks e chosen point before =
      level ks (omega (arith, e)) chosen point before
      (λ k l p h none. search depth (ks ++ k ∷ []) (omega (arith, e, length_push ks k)) (AreChoices-next C ks k chosen (omega (arith, e)) l) (p, h) none)

  gap_decided : 1 ≤ length P → Covers D P ⊎ IsEnd
  gap_decided some = go (length C) refl
    where
      whole : Searched [] → Covers D P ⊎ IsEnd
      whole (inl none) = inl ((covers_exactly D P).1 none)
      whole (inr end) = inr end

      go : (m : ℕ) → length C ≡ m → Covers D P ⊎ IsEnd
      go zero e = absurd (omega (arith, e, some, length-map P condition_rows))
      go (suc depth) e = whole (search depth [] (omega (arith, e)) tt (domain_point D C is_domain) (walk_begins D C))

  -- ---- all of it

  -- pieces cover the domain and agree on it, or are refused for a cause
  pub decided : 1 ≤ length P → AreChecked D P ⊎ IsRefusedForCause D P
  decided some = ⊎_elim asking (λ (r : IsRefusedForCause D P). inr r) (prepared D P)
    where
      covered : IsPrepared P → Agree D P → Covers D P ⊎ IsEnd → AreChecked D P ⊎ IsRefusedForCause D P
      covered ready agree (inl covers) = inl (record {
        is_domain = is_domain;
        long = over;
        prepared = ready;
        close = close_forms P ready.differences;
        covers = covers;
        agree = agree;
      })
      covered ready agree (inr (inl (p, full))) = inr (NotCovered p, (λ is. cc is), refused_gap D P ready agree p ((full_point D P p).0 full))
      covered ready agree (inr (inr (s, asked, stops))) = inr (stopped D P ready (s, inr (agree, asked), stops))

      agreed : IsPrepared P → All (HaveNoPoint D P) Pairs ⊎ IsRefusedByPair → AreChecked D P ⊎ IsRefusedForCause D P
      agreed ready (inl none) = covered ready (Agree_from_pairs D P (agree_each Pairs within none)) (gap_decided some)
      agreed ready (inr (inl (i, j, p, d))) = inr (Disagree i j p, (λ is. cc is), (ready, d))
      agreed ready (inr (inr (s, asked, stops))) = inr (stopped D P ready (s, inl asked, stops))

      asking : IsPrepared P → AreChecked D P ⊎ IsRefusedForCause D P
      asking ready = agreed ready (pairs_decided [] Pairs refl (All-nil (HaveNoPoint D P)))
