-- Two refusals of the same functions are the same but for a point, unless one is a solving limit, and no other stands beside functions that are shown to be the same.
use Rattle.std.proofs.Common.{◌≡◌, ◌⊎◌, inl, inr, ⊎_elim, ℕ, ◌+◌, ◌*◌, ◌≤◌, List, [], ◌∷◌, refl, sym, ap, ap₂, ◌∙◌, subst, arith}
use Rattle.std.specs.Prelude.{ℤ, ◌≢◌, length, All}
use Rattle.std.proofs.lemmas.List.Elements.{All-head, All-tail}
use Rattle.std.proofs.lemmas.Bool.{cases_lt}
use Rattle.crn_fraction.specs.Rational.{ℚ}
use Rattle.crn_farkas.specs.Systems.{IsPointOf}
use Rattle.crn_formula.specs.Formulas.{Formula, Sub}
use Rattle.crn_formula.specs.Pieces.{Piece, Domain, Covers, Agree}
use Rattle.crn_formula.specs.Domains.{domain_for}
use Rattle.crn_formula.specs.Functions.{Kind, ByFormula, ByPieces, ByLeast}
use Rattle.crn_pieces.specs.Pairs.{pairs_of, IsFirstWithout, AgreeEverywhere}
use Rattle.crn_pieces.specs.Answers.{Clears, HasFewForms, DoConditionsClear, DoesDifferenceClear, IsPrepared, IsFirstBigCondition, AreChecked}
use Rattle.crn_pieces.specs.declared.PiecesError.{PiecesError}
use Rattle.crn_pieces.specs.declared.PiecesError.TheVariants as unchecked
use Rattle.crn_pieces.proofs.ClearSteps.{not_all}
use Rattle.crn_pieces.proofs.OneRefusal.{one_first, one_big_condition, disagreement_excludes, gap_excludes}
use Rattle.crn_cells.specs.Answers.{AreTooManyCells}
use Rattle.crn_maxmin.specs.Marked.{numbered_forms}
use Rattle.crn_maxmin.specs.Answers.{HasTooManyNodes}
use Rattle.crn_maxmin.specs.declared.MaxminError.{MaxminError}
use Rattle.crn_maxmin.specs.declared.MaxminError.TheVariants as unformed
use Rattle.crn_maxmin.proofs.OneFormula.{few_cells, one_formula, one_count, few_nodes}
use Rattle.crn_normal.specs.declared.NormalError.{NormalError}
use Rattle.crn_normal.specs.declared.NormalError.TheVariants as normal
use Rattle.crn_normal.specs.Normal.{Sets, norm}
use Rattle.crn_normal.specs.Steps.{Step, steps}
use Rattle.crn_normal.specs.Refusals.{NoneStops, FirstStops}
use Rattle.crn_normal.proofs.Exclusive as passing
use Rattle.crn_same.specs.declared.SameError.{SameError}
use Rattle.crn_same.specs.declared.SameError.TheVariants.{Pieces, Maxmin, TooManySets, TooManyForms, TooBigForm, Differ, TooBig, TooManyRows, Memory}
use Rattle.crn_same.specs.Equal.{asked}
use Rattle.crn_same.specs.Answers.{SetStops, SetsStop, IsNowhere, StepsStop, DifferenceStops, NoneAbove, NoneDiffers, Ends, refusal_of}
use Rattle.crn_same.specs.Functions.{AreShownSame, IsRefused, IsFormulaFor, IsFormulaOfPieces, HasNoFormula, PiecesStop, common_domain}
use Rattle.crn_same.specs.Alike.{IsSolvingLimit, part_of, AreSameButForPoint, IsLimitBeside, AreAlike}

-- neither want of memory nor a solving limit
record IsExact (e : SameError) : Type 0 where
  is_cause : e ≢ Memory
  no_limit : ¬ IsSolvingLimit e

limit_or_not : (e : SameError) → IsSolvingLimit e ⊎ (¬ IsSolvingLimit e)
limit_or_not (Pieces which (unchecked.TooBig kept)) = inl tt
limit_or_not (Pieces which (unchecked.TooManyRows kept)) = inl tt
limit_or_not (Pieces which e) = inr (λ l. l)
limit_or_not (Maxmin which (unformed.TooBig kept)) = inl tt
limit_or_not (Maxmin which (unformed.TooManyRows kept)) = inl tt
limit_or_not (Maxmin which e) = inr (λ l. l)
limit_or_not (TooBig kept) = inl tt
limit_or_not (TooManyRows kept) = inl tt
limit_or_not e = inr (λ l. l)

-- ---- the comparison of two formulas

module _ (domain : Domain) where
  -- what ends the question of a set
  abbrev SetCase : List (List ℚ) → SameError → Type 0
  SetCase S e = ((¬ All Clears S) × (e ≡ TooBigForm)) ⊎ (All Clears S × (p : List ℤ) × IsPointOf (asked domain S) p × (e ≡ Differ p))

  set_case : (S : List (List ℚ)) (e : SameError) → IsExact e → SetStops domain S e → SetCase S e
  set_case S TooBigForm x s = inl (s, refl)
  set_case S (Differ p) x s = inr (s.0, p, s.1, refl)
  set_case S (TooBig kept) x s = absurd (x.no_limit tt)
  set_case S (TooManyRows kept) x s = absurd (x.no_limit tt)
  set_case S Memory x s = absurd (x.is_cause refl)
  set_case S e x s = absurd s.1

  differ_both : (d e : SameError) (p q : List ℤ) → d ≡ Differ p → e ≡ Differ q → AreAlike d e
  differ_both d e p q f g =
      let alike : AreAlike (Differ p) (Differ q) = inr (inl tt) in
      subst (λ x. AreAlike x e) (sym f) (subst (AreAlike (Differ p)) (sym g) alike)

  set_alike : (S : List (List ℚ)) (d e : SameError) → SetCase S d → SetCase S e → AreAlike d e
  set_alike S d e (inl s) (inl t) = inl (s.1 ∙ sym t.1)
  set_alike S d e (inl s) (inr t) = absurd (s.0 t.0)
  set_alike S d e (inr s) (inl t) = absurd (t.0 s.0)
  set_alike S d e (inr s) (inr t) = differ_both d e s.1 t.1 s.3 t.3

  set_excludes : (S : List (List ℚ)) (e : SameError) → IsNowhere domain S → SetCase S e → ⊥
  set_excludes S e n (inl s) = s.0 n.clears
  set_excludes S e n (inr s) = n.none.whole s.1 s.2.meets

  sets_alike : (A : Sets) (d e : SameError) → IsExact d → IsExact e → SetsStop domain A d → SetsStop domain A e → AreAlike d e
  sets_alike [] d e x y s t = absurd s
  sets_alike (S ∷ A) d e x y (inl s) (inl t) = set_alike S d e (set_case S d x s) (set_case S e y t)
  sets_alike (S ∷ A) d e x y (inl s) (inr t) = absurd (set_excludes S d t.0 (set_case S d x s))
  sets_alike (S ∷ A) d e x y (inr s) (inl t) = absurd (set_excludes S e s.0 (set_case S e y t))
  sets_alike (S ∷ A) d e x y (inr s) (inr t) = sets_alike A d e x y s.1 t.1

  sets_exclude : (A : Sets) (e : SameError) → IsExact e → All (IsNowhere domain) A → SetsStop domain A e → ⊥
  sets_exclude [] e x n s = s
  sets_exclude (S ∷ A) e x n (inl s) = set_excludes S e (All-head (IsNowhere domain) S A n) (set_case S e x s)
  sets_exclude (S ∷ A) e x n (inr s) = sets_exclude A e x (All-tail (IsNowhere domain) S A n) s.1

  -- the steps
  steps_case : (X : List Step) (e : SameError) → e ≢ Memory → StepsStop X e → (n : NormalError) × (n ≢ normal.Memory) × FirstStops X n × (e ≡ refusal_of n)
  steps_case X (TooManySets count) m s = (normal.TooManySets count, (λ e. cc e), s, refl)
  steps_case X (TooManyForms count) m s = (normal.TooManyForms count, (λ e. cc e), s, refl)
  steps_case X TooBigForm m s = (normal.TooBig, (λ e. cc e), s, refl)
  steps_case X Memory m s = absurd (m refl)
  steps_case X e m s = absurd s

  steps_alike : (X : List Step) (d e : SameError) → d ≢ Memory → e ≢ Memory → StepsStop X d → StepsStop X e → d ≡ e
  steps_alike X d e m n s t =
      let a = steps_case X d m s in
      let b = steps_case X e n t in
      a.3 ∙ ap refusal_of (passing.one_first X a.0 b.0 a.1 b.1 a.2 b.2) ∙ sym b.3

  steps_exclude : (X : List Step) (e : SameError) → e ≢ Memory → NoneStops X → StepsStop X e → ⊥
  steps_exclude X e m n s = let a = steps_case X e m s in passing.none_first X a.0 a.1 n a.2

  -- a difference
  difference_alike : (X : List Step) (A : Sets) (d e : SameError) → IsExact d → IsExact e → DifferenceStops domain X A d → DifferenceStops domain X A e → AreAlike d e
  difference_alike X A d e x y (inl s) (inl t) = inl (steps_alike X d e x.is_cause y.is_cause s t)
  difference_alike X A d e x y (inl s) (inr t) = absurd (steps_exclude X d x.is_cause t.0 s)
  difference_alike X A d e x y (inr s) (inl t) = absurd (steps_exclude X e y.is_cause s.0 t)
  difference_alike X A d e x y (inr s) (inr t) = sets_alike A d e x y s.1 t.1

  difference_excludes : (X : List Step) (A : Sets) (e : SameError) → IsExact e → NoneAbove domain X A → DifferenceStops domain X A e → ⊥
  difference_excludes X A e x n (inl s) = steps_exclude X e x.is_cause n.steps s
  difference_excludes X A e x n (inr s) = sets_exclude A e x n.sets s.1

  -- both
  ends_alike : (a b : Formula) (d e : SameError) → IsExact d → IsExact e → Ends domain a b d → Ends domain a b e → AreAlike d e
  ends_alike a b d e x y (inl s) (inl t) = difference_alike (steps (Sub a b)) (norm (Sub a b)) d e x y s t
  ends_alike a b d e x y (inl s) (inr t) = absurd (difference_excludes (steps (Sub a b)) (norm (Sub a b)) d x t.0 s)
  ends_alike a b d e x y (inr s) (inl t) = absurd (difference_excludes (steps (Sub a b)) (norm (Sub a b)) e y s.0 t)
  ends_alike a b d e x y (inr s) (inr t) = difference_alike (steps (Sub b a)) (norm (Sub b a)) d e x y s.1 t.1

  ends_exclude : (a b : Formula) (e : SameError) → IsExact e → NoneDiffers domain a b → Ends domain a b e → ⊥
  ends_exclude a b e x n (inl s) = difference_excludes (steps (Sub a b)) (norm (Sub a b)) e x n.above s
  ends_exclude a b e x n (inr s) = difference_excludes (steps (Sub b a)) (norm (Sub b a)) e x n.below s.1

  -- no end of the comparison is of a function
  sets_part : (A : Sets) (e : SameError) → SetsStop domain A e → part_of e ≡ 9
  sets_part [] e s = absurd s
  sets_part (S ∷ A) (Pieces which e) (inl s) = absurd s.1
  sets_part (S ∷ A) (Maxmin which e) (inl s) = absurd s.1
  sets_part (S ∷ A) (TooManySets count) (inl s) = refl
  sets_part (S ∷ A) (TooManyForms count) (inl s) = refl
  sets_part (S ∷ A) TooBigForm (inl s) = refl
  sets_part (S ∷ A) (Differ p) (inl s) = refl
  sets_part (S ∷ A) (TooBig kept) (inl s) = refl
  sets_part (S ∷ A) (TooManyRows kept) (inl s) = refl
  sets_part (S ∷ A) Memory (inl s) = refl
  sets_part (S ∷ A) e (inr s) = sets_part A e s.1

  steps_part : (X : List Step) (e : SameError) → StepsStop X e → part_of e ≡ 9
  steps_part X (TooManySets count) s = refl
  steps_part X (TooManyForms count) s = refl
  steps_part X TooBigForm s = refl
  steps_part X Memory s = refl
  steps_part X e s = absurd s

  difference_part : (X : List Step) (A : Sets) (e : SameError) → DifferenceStops domain X A e → part_of e ≡ 9
  difference_part X A e (inl s) = steps_part X e s
  difference_part X A e (inr s) = sets_part A e s.1

  ends_part : (a b : Formula) (e : SameError) → Ends domain a b e → part_of e ≡ 9
  ends_part a b e (inl s) = difference_part (steps (Sub a b)) (norm (Sub a b)) e s
  ends_part a b e (inr s) = difference_part (steps (Sub b a)) (norm (Sub b a)) e s.1

-- ---- a way of questions

-- answers of these are alike, come in no earlier part, and are limits where this is so
record IsWay (Shown : Type 0) (Answer : SameError → Type 0) (part : ℕ) : Type 0 where
  alike : (d e : SameError) → Answer d → Answer e → AreAlike d e
  from : (e : SameError) → Answer e → part ≤ part_of e
  only : (e : SameError) → Shown → Answer e → IsSolvingLimit e

-- what is answered to a question where this does not hold, or to a later one where it does
data At (Holds : Type 0) (Says Later : SameError → Type 0) (e : SameError) : Type 0 where
  Here : ¬ Holds → Says e → At Holds Says Later e
  Behind : Holds → Later e → At Holds Says Later e

-- a solving limit in a part, or a later answer
data Limited (part : ℕ) (Later : SameError → Type 0) (e : SameError) : Type 0 where
  IsLimit : IsSolvingLimit e → part_of e ≡ part → Limited part Later e
  NoLimit : Later e → Limited part Later e

module _ {Shown : Type 0} {Later : SameError → Type 0} (part next : ℕ) (order : part ≤ next) (way : IsWay Shown Later next) where
  later : (e : SameError) → Later e → part ≤ part_of e
  later e l = let f = way.from e l in omega (arith, order, f)

  question : (Holds : Type 0) (Says : SameError → Type 0) → (Shown → Holds) → ((d e : SameError) → Says d → Says e → AreAlike d e) → ((e : SameError) → Says e → part_of e ≡ part) → IsWay Shown (At Holds Says Later) part
  question Holds Says shown says is = record { alike = alike; from = from; only = only }
    where
      alike : (d e : SameError) → At Holds Says Later d → At Holds Says Later e → AreAlike d e
      alike d e (Here n s) (Here m t) = says d e s t
      alike d e (Here n s) (Behind h t) = absurd (n h)
      alike d e (Behind h s) (Here m t) = absurd (m h)
      alike d e (Behind h s) (Behind g t) = way.alike d e s t

      from : (e : SameError) → At Holds Says Later e → part ≤ part_of e
      from e (Here n s) = let p = is e s in omega (arith, p)
      from e (Behind h s) = later e s

      only : (e : SameError) → Shown → At Holds Says Later e → IsSolvingLimit e
      only e x (Here n s) = absurd (n (shown x))
      only e x (Behind h s) = way.only e x s

  limits : IsWay Shown (Limited part Later) part
  limits = record { alike = alike; from = from; only = only }
    where
      beside : (d e : SameError) → IsSolvingLimit d → part_of d ≡ part → part ≤ part_of e → IsLimitBeside d e
      beside d e l p q = (l, omega (arith, p, q))

      from : (e : SameError) → Limited part Later e → part ≤ part_of e
      from e (IsLimit l p) = omega (arith, p)
      from e (NoLimit s) = later e s

      alike : (d e : SameError) → Limited part Later d → Limited part Later e → AreAlike d e
      alike d e (IsLimit l p) t = inr (inr (inl (beside d e l p (from e t))))
      alike d e (NoLimit s) (IsLimit l p) = inr (inr (inr (beside e d l p (later d s))))
      alike d e (NoLimit s) (NoLimit t) = way.alike d e s t

      only : (e : SameError) → Shown → Limited part Later e → IsSolvingLimit e
      only e x (IsLimit l p) = l
      only e x (NoLimit s) = way.only e x s

-- ---- the comparison as such a way

module _ (k : ℕ) (f g : Kind) (a b : Formula) where
  abbrev Compared : SameError → Type 0
  Compared e = (e ≢ Memory) × Ends (common_domain k f g) a b e

  compared : {Shown : Type 0} → (Shown → NoneDiffers (common_domain k f g) a b) → IsWay Shown Compared 9
  compared {Shown} shown = record { alike = alike; from = λ e s. (let p = ends_part (common_domain k f g) a b e s.1 in omega (arith, p)); only = only }
    where
      alike : (d e : SameError) → Compared d → Compared e → AreAlike d e
      alike d e s t = go (limit_or_not d) (limit_or_not e)
        where
          go : IsSolvingLimit d ⊎ (¬ IsSolvingLimit d) → IsSolvingLimit e ⊎ (¬ IsSolvingLimit e) → AreAlike d e
          go (inl l) m = let p = ends_part (common_domain k f g) a b d s.1 in let q = ends_part (common_domain k f g) a b e t.1 in inr (inr (inl (l, omega (arith, p, q))))
          go (inr n) (inl l) = let p = ends_part (common_domain k f g) a b d s.1 in let q = ends_part (common_domain k f g) a b e t.1 in inr (inr (inr (l, omega (arith, p, q))))
          go (inr n) (inr m) = ends_alike (common_domain k f g) a b d e (record { is_cause = s.0; no_limit = n }) (record { is_cause = t.0; no_limit = m }) s.1 t.1

      only : (e : SameError) → Shown → Compared e → IsSolvingLimit e
      only e x s =
          ⊎_elim (λ (l : IsSolvingLimit e). l)
          (λ (n : ¬ IsSolvingLimit e). absurd (ends_exclude (common_domain k f g) a b e (record { is_cause = s.0; no_limit = n }) (shown x) s.1))
          (limit_or_not e)

-- ---- the formula of a function as such a way

-- function 1 or 2
module _ (which : ℕ) (D : Domain) (ps : List Piece) where
  abbrev SaysForms : SameError → Type 0
  SaysForms e = e ≡ Pieces which (unchecked.TooManyForms (length (numbered_forms ps)))

  abbrev SaysCondition : SameError → Type 0
  SaysCondition e = (i : ℕ) × (c : ℕ) × IsFirstBigCondition ps i c × (e ≡ Pieces which (unchecked.BigCondition i c))

  abbrev SaysDifference : SameError → Type 0
  SaysDifference e = (i : ℕ) × (j : ℕ) × IsFirstWithout (DoesDifferenceClear ps) (pairs_of (length ps)) (i, j) × (e ≡ Pieces which (unchecked.BigDifference i j))

  abbrev SaysPair : SameError → Type 0
  SaysPair e = (i : ℕ) × (j : ℕ) × (p : List ℤ) × IsFirstWithout (AgreeEverywhere D ps) (pairs_of (length ps)) (i, j) × (e ≡ Pieces which (unchecked.Disagree i j p))

  abbrev SaysGap : SameError → Type 0
  SaysGap e = (p : List ℤ) × (e ≡ Pieces which (unchecked.NotCovered p))

  abbrev SaysCells : SameError → Type 0
  SaysCells e = e ≡ Maxmin which (unformed.TooManyCells 4097)

  abbrev SaysNodes : SameError → Type 0
  SaysNodes e = (n : ℕ) × AreChecked D ps × HasTooManyNodes D ps n × (e ≡ Maxmin which (unformed.TooManyNodes n))

  module _ (Later : SameError → Type 0) where
    abbrev AtCells : SameError → Type 0
    AtCells = At (¬ AreTooManyCells D (numbered_forms ps)) SaysCells (At ((n : ℕ) → ¬ HasTooManyNodes D ps n) SaysNodes Later)

    abbrev AtPairs : SameError → Type 0
    AtPairs = At (Agree D ps) SaysPair (At (Covers D ps) SaysGap (Limited (which * 3 + 2) AtCells))

    abbrev AtForms : SameError → Type 0
    AtForms = At (HasFewForms ps) SaysForms (At (All DoConditionsClear ps) SaysCondition (At (All (DoesDifferenceClear ps) (pairs_of (length ps))) SaysDifference (Limited (which * 3 + 1) AtPairs)))

    after_rows : (e : SameError) → IsPrepared ps → Limited (which * 3 + 1) AtPairs e → AtForms e
    after_rows e ready at = Behind ready.few (Behind ready.conditions (Behind ready.differences at))

    after_checks : (e : SameError) → AreChecked D ps → Limited (which * 3 + 2) AtCells e → AtForms e
    after_checks e checked at = after_rows e checked.prepared (NoLimit (Behind checked.agree (Behind checked.covers at)))

    -- where a refusal stands
    placed : (e : SameError) → e ≢ Memory → PiecesStop which D ps e → AtForms e
    placed (Pieces w (unchecked.TooManyForms count)) m (is, n, r) = Here (λ few. omega (arith, r.0, r.1, few)) (ap₂ (λ v c. Pieces v (unchecked.TooManyForms c)) is r.1)
    placed (Pieces w (unchecked.BigCondition i c)) m (is, n, (few, r)) =
        Behind few (Here (not_all DoConditionsClear ps r.piece r.in_pieces.first) (i, c, r, ap (λ v. Pieces v (unchecked.BigCondition i c)) is))
    placed (Pieces w (unchecked.BigDifference i j)) m (is, n, (few, conditions, r)) =
        Behind few (Behind conditions (Here (not_all (DoesDifferenceClear ps) (pairs_of (length ps)) (i, j) r) (i, j, r, ap (λ v. Pieces v (unchecked.BigDifference i j)) is)))
    placed (Pieces w (unchecked.Disagree i j p)) m (is, n, (ready, r)) =
        after_rows (Pieces w (unchecked.Disagree i j p)) ready (NoLimit (Here (disagreement_excludes D ps i j p r) (i, j, p, r.first, ap (λ v. Pieces v (unchecked.Disagree i j p)) is)))
    placed (Pieces w (unchecked.NotCovered p)) m (is, n, (ready, r)) =
        after_rows (Pieces w (unchecked.NotCovered p)) ready (NoLimit (Behind r.agree (Here (gap_excludes D ps p r) (p, ap (λ v. Pieces v (unchecked.NotCovered p)) is))))
    placed (Pieces w (unchecked.TooBig kept)) m (is, n, r) = after_rows (Pieces w (unchecked.TooBig kept)) r.0 (IsLimit tt (ap (λ v. v * 3 + 1) is))
    placed (Pieces w (unchecked.TooManyRows kept)) m (is, n, r) = after_rows (Pieces w (unchecked.TooManyRows kept)) r.0 (IsLimit tt (ap (λ v. v * 3 + 1) is))
    placed (Pieces w unchecked.Memory) m s = absurd (s.1 refl)
    placed (Maxmin w (unformed.TooBig kept)) m (is, n, checked, r) = after_checks (Maxmin w (unformed.TooBig kept)) checked (IsLimit tt (ap (λ v. v * 3 + 2) is))
    placed (Maxmin w (unformed.TooManyRows kept)) m (is, n, checked, r) = after_checks (Maxmin w (unformed.TooManyRows kept)) checked (IsLimit tt (ap (λ v. v * 3 + 2) is))
    placed (Maxmin w (unformed.TooManyCells count)) m (is, n, checked, r) =
        after_checks (Maxmin w (unformed.TooManyCells count)) checked (NoLimit (Here (λ few. few r.1) (ap₂ (λ v c. Maxmin v (unformed.TooManyCells c)) is r.0)))
    placed (Maxmin w (unformed.TooManyNodes count)) m (is, n, checked, r) =
        after_checks (Maxmin w (unformed.TooManyNodes count)) checked
        (NoLimit (Behind (few_cells D ps r.0 r.1) (Here (λ few. few count r) (count, checked, r, ap (λ v. Maxmin v (unformed.TooManyNodes count)) is))))
    placed (Maxmin w unformed.Memory) m s = absurd (s.1 refl)
    placed Memory m r = absurd (m refl)
    placed e m r = absurd r

    -- and where an answer stands that comes once the formula is there
    behind_formula : (e : SameError) → (a : Formula) → IsFormulaOfPieces D ps a → Later e → AtForms e
    behind_formula e a is l =
        after_checks e is.checked (NoLimit (Behind (few_cells D ps a is.is_formula) (Behind (few_nodes D ps is.checked a is.is_formula is.few_nodes) l)))

    -- two answers to one question
    same_conditions : (d e : SameError) → SaysCondition d → SaysCondition e → AreAlike d e
    same_conditions d e (i, c, first, p) (j, b, second, q) =
        let s = one_big_condition ps i j c b first second in
        inl (p ∙ ap₂ (λ i c. Pieces which (unchecked.BigCondition i c)) s.0 s.1 ∙ sym q)

    same_differences : (d e : SameError) → SaysDifference d → SaysDifference e → AreAlike d e
    same_differences d e (i, j, first, p) (k, l, second, q) =
        let s = one_first (DoesDifferenceClear ps) (pairs_of (length ps)) (i, j) (k, l) first second in
        inl (p ∙ ap (λ (r : ℕ × ℕ). Pieces which (unchecked.BigDifference r.0 r.1)) s ∙ sym q)

    same_pairs : (d e : SameError) → SaysPair d → SaysPair e → AreAlike d e
    same_pairs d e (i, j, x, first, p) (k, l, y, second, q) =
        let s = one_first (AgreeEverywhere D ps) (pairs_of (length ps)) (i, j) (k, l) first second in
        let alike : AreAlike (Pieces which (unchecked.Disagree i j x)) (Pieces which (unchecked.Disagree k l y)) =
        inr (inl (refl, (ap (λ (r : ℕ × ℕ). r.0) s, ap (λ (r : ℕ × ℕ). r.1) s))) in
        subst (λ z. AreAlike z e) (sym p) (subst (AreAlike (Pieces which (unchecked.Disagree i j x))) (sym q) alike)

    same_gaps : (d e : SameError) → SaysGap d → SaysGap e → AreAlike d e
    same_gaps d e (x, p) (y, q) =
        let alike : AreAlike (Pieces which (unchecked.NotCovered x)) (Pieces which (unchecked.NotCovered y)) = inr (inl (refl, tt)) in
        subst (λ z. AreAlike z e) (sym p) (subst (AreAlike (Pieces which (unchecked.NotCovered x))) (sym q) alike)

    same_nodes : (d e : SameError) → SaysNodes d → SaysNodes e → AreAlike d e
    same_nodes d e (m, checked, first, p) (n, also, second, q) =
        inl (p ∙ ap (λ n. Maxmin which (unformed.TooManyNodes n)) (one_count D ps checked m n first second) ∙ sym q)

    way_of_pieces : {Shown : Type 0} → (next : ℕ) → which * 3 + 2 ≤ next → (Shown → (a : Formula) × IsFormulaOfPieces D ps a) → IsWay Shown Later next → IsWay Shown AtForms (which * 3)
    way_of_pieces {Shown} next order shown way = forms
      where
        checked : Shown → AreChecked D ps
        checked x = (shown x).1.checked

        nodes : IsWay Shown (At ((n : ℕ) → ¬ HasTooManyNodes D ps n) SaysNodes Later) (which * 3 + 2)
        nodes =
            question (which * 3 + 2) next order way ((n : ℕ) → ¬ HasTooManyNodes D ps n) SaysNodes
            (λ x. few_nodes D ps (checked x) (shown x).0 (shown x).1.is_formula (shown x).1.few_nodes) same_nodes
            (λ e s. ap part_of s.3)

        cells : IsWay Shown AtCells (which * 3 + 2)
        cells =
            question (which * 3 + 2) (which * 3 + 2) (omega arith) nodes (¬ AreTooManyCells D (numbered_forms ps)) SaysCells (λ x. few_cells D ps (shown x).0 (shown x).1.is_formula)
            (λ d e p q. inl (p ∙ sym q)) (λ e s. ap part_of s)

        gaps : IsWay Shown (At (Covers D ps) SaysGap (Limited (which * 3 + 2) AtCells)) (which * 3 + 1)
        gaps =
            question (which * 3 + 1) (which * 3 + 2) (omega arith) (limits (which * 3 + 2) (which * 3 + 2) (omega arith) cells) (Covers D ps) SaysGap (λ x. (checked x).covers) same_gaps
            (λ e s. ap part_of s.1)

        pairs : IsWay Shown AtPairs (which * 3 + 1)
        pairs = question (which * 3 + 1) (which * 3 + 1) (omega arith) gaps (Agree D ps) SaysPair (λ x. (checked x).agree) same_pairs (λ e s. ap part_of s.4)

        differences : IsWay Shown (At (All (DoesDifferenceClear ps) (pairs_of (length ps))) SaysDifference (Limited (which * 3 + 1) AtPairs)) (which * 3)
        differences =
            question (which * 3) (which * 3 + 1) (omega arith) (limits (which * 3 + 1) (which * 3 + 1) (omega arith) pairs) (All (DoesDifferenceClear ps) (pairs_of (length ps))) SaysDifference
            (λ x. (checked x).prepared.differences) same_differences (λ e s. let p : part_of e ≡ which * 3 + 0 = ap part_of s.3 in omega (arith, p))

        conditions : IsWay Shown (At (All DoConditionsClear ps) SaysCondition (At (All (DoesDifferenceClear ps) (pairs_of (length ps))) SaysDifference (Limited (which * 3 + 1) AtPairs))) (which * 3)
        conditions =
            question (which * 3) (which * 3) (omega arith) differences (All DoConditionsClear ps) SaysCondition (λ x. (checked x).prepared.conditions) same_conditions
            (λ e s. let p : part_of e ≡ which * 3 + 0 = ap part_of s.3 in omega (arith, p))

        forms : IsWay Shown AtForms (which * 3)
        forms =
            question (which * 3) (which * 3) (omega arith) conditions (HasFewForms ps) SaysForms (λ x. (checked x).prepared.few) (λ d e p q. inl (p ∙ sym q))
            (λ e s. let p : part_of e ≡ which * 3 + 0 = ap part_of s in omega (arith, p))

-- a way that begins sooner
sooner : {Shown : Type 0} {Later : SameError → Type 0} (part next : ℕ) → part ≤ next → IsWay Shown Later next → IsWay Shown Later part
sooner part next order way = record { alike = way.alike; from = λ e s. (let f = way.from e s in omega (arith, order, f)); only = way.only }

-- what may come of function 1 or 2, and then
abbrev AtFunction : (which k : ℕ) → Kind → (SameError → Type 0) → SameError → Type 0
AtFunction which k (ByFormula e) Later = Later
AtFunction which k (ByPieces ps) Later = AtForms which (domain_for k (ByPieces ps)) ps Later
AtFunction which k (ByLeast forms) Later = Later

way_of_function : {Shown : Type 0} (which k : ℕ) (f : Kind) (Later : SameError → Type 0) (next : ℕ) → which * 3 + 2 ≤ next → (Shown → (a : Formula) × IsFormulaFor k f a) → IsWay Shown Later next → IsWay Shown (AtFunction which k f Later) (which * 3)
way_of_function which k (ByFormula e) Later next order shown way = sooner (which * 3) next (omega (arith, order)) way
way_of_function which k (ByPieces ps) Later next order shown way = way_of_pieces which (domain_for k (ByPieces ps)) ps Later next order shown way
way_of_function which k (ByLeast forms) Later next order shown way = sooner (which * 3) next (omega (arith, order)) way

placed_function : (which k : ℕ) (f : Kind) (Later : SameError → Type 0) (e : SameError) → e ≢ Memory → HasNoFormula which k f e → AtFunction which k f Later e
placed_function which k (ByFormula a) Later e m n = absurd (m n)
placed_function which k (ByPieces ps) Later e m n = placed which (domain_for k (ByPieces ps)) ps Later e m n
placed_function which k (ByLeast forms) Later e m n = absurd (m n)

behind_function : (which k : ℕ) (f : Kind) (Later : SameError → Type 0) (e : SameError) (a : Formula) → IsFormulaFor k f a → Later e → AtFunction which k f Later e
behind_function which k (ByFormula g) Later e a is l = l
behind_function which k (ByPieces ps) Later e a is l = behind_formula which (domain_for k (ByPieces ps)) ps Later e a is l
behind_function which k (ByLeast forms) Later e a is l = l

-- a function has one formula
one_formula_for : (k : ℕ) (f : Kind) (a b : Formula) → IsFormulaFor k f a → IsFormulaFor k f b → a ≡ b
one_formula_for k (ByFormula e) a b is js = is ∙ sym js
one_formula_for k (ByPieces ps) a b is js = one_formula (domain_for k (ByPieces ps)) ps is.checked a b is.is_formula js.is_formula
one_formula_for k (ByLeast forms) a b is js = absurd is

abbrev WithFormula : ℕ → Kind → (Formula → SameError → Type 0) → SameError → Type 0
WithFormula k f Later e = (a : Formula) × IsFormulaFor k f a × Later a e

with_formula : {Shown : Type 0} (k : ℕ) (f : Kind) (Later : Formula → SameError → Type 0) (next : ℕ) → ((a : Formula) → IsFormulaFor k f a → IsWay Shown (Later a) next) → IsWay Shown (WithFormula k f Later) next
with_formula {Shown} k f Later next way = record {
  alike = alike;
  from = λ e s. (way s.0 s.1).from e s.2;
  only = λ e x s. (way s.0 s.1).only e x s.2;
}
  where
    alike : (d e : SameError) → WithFormula k f Later d → WithFormula k f Later e → AreAlike d e
    alike d e (a, is, s) (b, js, t) = (way a is).alike d e s (subst (λ c. Later c e) (one_formula_for k f b a js is) t)

-- ---- two functions
module _ (k : ℕ) (f g : Kind) where
  abbrev Second : Formula → SameError → Type 0
  Second a = WithFormula k g (Compared k f g a)

  abbrev First : SameError → Type 0
  First = WithFormula k f (λ a. AtFunction 2 k g (Second a))

  abbrev Whole : SameError → Type 0
  Whole = AtFunction 1 k f First

  where_placed : (e : SameError) → e ≢ Memory → IsRefused k f g e → Whole e
  where_placed e m (inl n) = placed_function 1 k f First e m n
  where_placed e m (inr (a, is, inl n)) = behind_function 1 k f First e a is (a, is, placed_function 2 k g (Second a) e m n)
  where_placed e m (inr (a, is, inr (b, js, ends))) = behind_function 1 k f First e a is (a, is, behind_function 2 k g (Second a) e b js (b, js, (m, ends)))

  none_of : (a b : Formula) → IsFormulaFor k f a → IsFormulaFor k g b → AreShownSame k f g → NoneDiffers (common_domain k f g) a b
  none_of a b is js s =
      subst (λ v. NoneDiffers (common_domain k f g) a v) (one_formula_for k g s.second b s.is_second js)
      (subst (λ v. NoneDiffers (common_domain k f g) v s.second) (one_formula_for k f s.first a s.is_first is) s.none_differs)

  second_way : (a : Formula) → IsFormulaFor k f a → IsWay (AreShownSame k f g) (Second a) 9
  second_way a is = with_formula k g (Compared k f g a) 9 (λ b js. compared k f g a b (λ s. none_of a b is js s))

  first_way : IsWay (AreShownSame k f g) First 6
  first_way = with_formula k f (λ a. AtFunction 2 k g (Second a)) 6 (λ a is. way_of_function 2 k g (Second a) 9 (omega arith) (λ s. (s.second, s.is_second)) (second_way a is))

  whole_way : IsWay (AreShownSame k f g) Whole 3
  whole_way = way_of_function 1 k f First 6 (omega arith) (λ s. (s.first, s.is_first)) first_way

  pub alike : (d e : SameError) → d ≢ Memory → e ≢ Memory → IsRefused k f g d → IsRefused k f g e → AreAlike d e
  alike d e m n r s = whole_way.alike d e (where_placed d m r) (where_placed e n s)

  pub limit_beside : (e : SameError) → e ≢ Memory → AreShownSame k f g → IsRefused k f g e → IsSolvingLimit e
  limit_beside e m shown r = whole_way.only e shown (where_placed e m r)
