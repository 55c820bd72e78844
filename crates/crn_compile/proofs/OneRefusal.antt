-- Two refusals of one function are the same but for a point, unless one is a solving limit, and no other stands beside a network.
use Rattle.std.proofs.Common.{◌≡◌, ◌⊎◌, inl, inr, ⊎_elim, ℕ, List, refl, sym, ap, ap₂, ◌∙◌, subst, arith}
use Rattle.std.specs.Prelude.{ℤ, ◌≢◌, length, All}
use Rattle.crn_net.specs.Network.{Network}
use Rattle.crn_formula.specs.Pieces.{Piece, Domain, Covers, Agree}
use Rattle.crn_formula.specs.Domains.{domain_for}
use Rattle.crn_formula.specs.Functions.{Kind, ByFormula, ByPieces, ByLeast}
use Rattle.crn_pieces.specs.Pairs.{pairs_of, IsFirstWithout, AgreeEverywhere}
use Rattle.crn_pieces.specs.Answers.{HasFewForms, DoConditionsClear, DoesDifferenceClear, IsPrepared, IsFirstBigCondition, AreChecked}
use Rattle.crn_pieces.proofs.ClearSteps.{not_all}
use Rattle.crn_pieces.proofs.OneRefusal.{one_first, one_big_condition, disagreement_excludes, gap_excludes}
use Rattle.crn_cells.specs.Answers.{AreTooManyCells}
use Rattle.crn_maxmin.specs.Marked.{numbered_forms}
use Rattle.crn_maxmin.specs.Answers.{HasTooManyNodes}
use Rattle.crn_maxmin.proofs.OneFormula.{few_cells, one_count, few_nodes}
use Rattle.crn_compile.specs.Networks.{IsNetworkOf, IsNetworkOfPieces}
use Rattle.crn_compile.specs.Refusals.{IsRefused, IsRefusedByPieces}
use Rattle.crn_compile.specs.DirectRefusals.{IsOfNoFormula}
use Rattle.crn_compile.specs.Alike.{IsSolvingLimit, IsFoundBySolving, AreAlike}
use Rattle.crn_compile.specs.declared.CompileError.{CompileError}
use Rattle.crn_compile.specs.declared.CompileError.TheVariants.{TooManyForms, BigCondition, BigDifference, Disagree, NotCovered, TooBig, TooManyRows, TooManyCells, TooManyNodes, Memory}

-- ---- one question after another

-- what is answered to a question where this does not hold, or to a later one where it does
data At (Holds : Type 0) (Says Later : CompileError → Type 0) (e : CompileError) : Type 0 where
  Here : ¬ Holds → Says e → At Holds Says Later e
  Behind : Holds → Later e → At Holds Says Later e

-- two answers are to one question
one_question : {Holds : Type 0} {Says Later : CompileError → Type 0} (a b : CompileError) → (Says a → Says b → AreAlike a b) → (Later a → Later b → AreAlike a b)
    → At Holds Says Later a → At Holds Says Later b → AreAlike a b
one_question a b says later (Here fails first) (Here also second) = says first second
one_question a b says later (Here fails first) (Behind holds second) = absurd (fails holds)
one_question a b says later (Behind holds first) (Here fails second) = absurd (fails holds)
one_question a b says later (Behind holds first) (Behind also second) = later first second

-- and where it holds, an answer is to a later one
past : {Holds : Type 0} {Says Later : CompileError → Type 0} (e : CompileError) → Holds → At Holds Says Later e → Later e
past e holds (Here fails says) = absurd (fails holds)
past e holds (Behind also later) = later

module _ (domain : Domain) (ps : List Piece) where
  -- ---- what a refusal says

  abbrev SaysForms : CompileError → Type 0
  SaysForms e = e ≡ TooManyForms (length (numbered_forms ps))

  abbrev SaysCondition : CompileError → Type 0
  SaysCondition e = (i : ℕ) × (c : ℕ) × IsFirstBigCondition ps i c × (e ≡ BigCondition i c)

  abbrev SaysDifference : CompileError → Type 0
  SaysDifference e = (i : ℕ) × (j : ℕ) × IsFirstWithout (DoesDifferenceClear ps) (pairs_of (length ps)) (i, j) × (e ≡ BigDifference i j)

  abbrev SaysPair : CompileError → Type 0
  SaysPair e = (i : ℕ) × (j : ℕ) × (p : List ℤ) × IsFirstWithout (AgreeEverywhere domain ps) (pairs_of (length ps)) (i, j) × (e ≡ Disagree i j p)

  abbrev SaysGap : CompileError → Type 0
  SaysGap e = (p : List ℤ) × (e ≡ NotCovered p)

  abbrev SaysCells : CompileError → Type 0
  SaysCells e = e ≡ TooManyCells 4097

  abbrev SaysNodes : CompileError → Type 0
  SaysNodes e = (n : ℕ) × AreChecked domain ps × HasTooManyNodes domain ps n × (e ≡ TooManyNodes n)

  -- ---- the questions, the last one first

  abbrev AtNodes : CompileError → Type 0
  AtNodes = At ((n : ℕ) → ¬ HasTooManyNodes domain ps n) SaysNodes (λ e. ⊥)

  abbrev AtCells : CompileError → Type 0
  AtCells = At (¬ AreTooManyCells domain (numbered_forms ps)) SaysCells AtNodes

  abbrev AtCover : CompileError → Type 0
  AtCover = At (Covers domain ps) SaysGap AtCells

  abbrev AtPairs : CompileError → Type 0
  AtPairs = At (Agree domain ps) SaysPair AtCover

  abbrev AtDifferences : CompileError → Type 0
  AtDifferences = At (All (DoesDifferenceClear ps) (pairs_of (length ps))) SaysDifference AtPairs

  abbrev AtConditions : CompileError → Type 0
  AtConditions = At (All DoConditionsClear ps) SaysCondition AtDifferences

  abbrev AtForms : CompileError → Type 0
  AtForms = At (HasFewForms ps) SaysForms AtConditions

  -- a refusal is a solving limit, or an answer to one of them
  after_rows : (e : CompileError) → IsPrepared ps → AtPairs e → AtForms e
  after_rows e prepared at = Behind prepared.few (Behind prepared.conditions (Behind prepared.differences at))

  after_checks : (e : CompileError) → AreChecked domain ps → AtCells e → AtForms e
  after_checks e checked at = after_rows e checked.prepared (Behind checked.agree (Behind checked.covers at))

  placed : (e : CompileError) → e ≢ Memory → IsRefusedByPieces domain ps e → IsSolvingLimit e ⊎ AtForms e
  placed (TooManyForms count) other is = inr (Here (λ few. omega (arith, is.0, is.1, few)) (ap TooManyForms is.1))
  placed (BigCondition i c) other (few, is) = inr (Behind few (Here (not_all DoConditionsClear ps is.piece is.in_pieces.first) (i, c, is, refl)))
  placed (BigDifference i j) other (few, conditions, is) =
      inr (Behind few (Behind conditions (Here (not_all (DoesDifferenceClear ps) (pairs_of (length ps)) (i, j) is) (i, j, is, refl))))
  placed (Disagree i j p) other (prepared, is) = inr (after_rows (Disagree i j p) prepared (Here (disagreement_excludes domain ps i j p is) (i, j, p, is.first, refl)))
  placed (NotCovered p) other (prepared, is) = inr (after_rows (NotCovered p) prepared (Behind is.agree (Here (gap_excludes domain ps p is) (p, refl))))
  placed (TooBig kept) other is = inl tt
  placed (TooManyRows kept) other is = inl tt
  placed (TooManyCells count) other (checked, is) = inr (after_checks (TooManyCells count) checked (Here (λ few. few is.1) (ap TooManyCells is.0)))
  placed (TooManyNodes count) other (checked, is) =
      inr (after_checks (TooManyNodes count) checked (Behind (few_cells domain ps is.0 is.1) (Here (λ few. few count is) (count, checked, is, refl))))
  placed Memory other is = absurd (other refl)

  -- ---- two answers to one question

  same_conditions : (a b : CompileError) → SaysCondition a → SaysCondition b → AreAlike a b
  same_conditions a b (i, c, first, e) (j, d, second, f) = let s = one_big_condition ps i j c d first second in inl (e ∙ ap₂ BigCondition s.0 s.1 ∙ sym f)

  same_differences : (a b : CompileError) → SaysDifference a → SaysDifference b → AreAlike a b
  same_differences a b (i, j, first, e) (k, l, second, f) =
      let s = one_first (DoesDifferenceClear ps) (pairs_of (length ps)) (i, j) (k, l) first second in
      inl (e ∙ ap (λ (q : ℕ × ℕ). BigDifference q.0 q.1) s ∙ sym f)

  same_pairs : (a b : CompileError) → SaysPair a → SaysPair b → AreAlike a b
  same_pairs a b (i, j, p, first, e) (k, l, q, second, f) =
      let s = one_first (AgreeEverywhere domain ps) (pairs_of (length ps)) (i, j) (k, l) first second in
      let alike : AreAlike (Disagree i j p) (Disagree k l q) = inr (inl (ap (λ (r : ℕ × ℕ). r.0) s, ap (λ (r : ℕ × ℕ). r.1) s)) in
      subst (λ x. AreAlike x b) (sym e) (subst (AreAlike (Disagree i j p)) (sym f) alike)

  same_gaps : (a b : CompileError) → SaysGap a → SaysGap b → AreAlike a b
  same_gaps a b (p, e) (q, f) =
      let alike : AreAlike (NotCovered p) (NotCovered q) = inr (inl tt) in
      subst (λ x. AreAlike x b) (sym e) (subst (AreAlike (NotCovered p)) (sym f) alike)

  same_nodes : (a b : CompileError) → SaysNodes a → SaysNodes b → AreAlike a b
  same_nodes a b (m, checked, first, e) (n, also, second, f) = inl (e ∙ ap TooManyNodes (one_count domain ps checked m n first second) ∙ sym f)

  same_question : (a b : CompileError) → AtForms a → AtForms b → AreAlike a b
  same_question a b =
      one_question a b (λ e f. inl (e ∙ sym f))
      (one_question a b (same_conditions a b)
      (one_question a b (same_differences a b)
      (one_question a b (same_pairs a b)
      (one_question a b (same_gaps a b)
      (one_question a b (λ e f. inl (e ∙ sym f))
      (one_question a b (same_nodes a b) (λ none. absurd none)))))))

  -- ---- a solving limit, and what may stand beside it

  prepared_by : (e : CompileError) → IsSolvingLimit e → IsRefusedByPieces domain ps e → IsPrepared ps
  prepared_by (TooBig kept) limit is = is.0
  prepared_by (TooManyRows kept) limit is = is.0
  prepared_by e limit is = absurd limit

  found_by_solving : (e : CompileError) → IsPrepared ps → e ≢ Memory → IsRefusedByPieces domain ps e → IsFoundBySolving e
  found_by_solving (TooManyForms count) prepared other is = omega (arith, is.0, is.1, prepared.few)
  found_by_solving (BigCondition i c) prepared other is = not_all DoConditionsClear ps is.1.piece is.1.in_pieces.first prepared.conditions
  found_by_solving (BigDifference i j) prepared other is = not_all (DoesDifferenceClear ps) (pairs_of (length ps)) (i, j) is.2 prepared.differences
  found_by_solving Memory prepared other is = other refl
  found_by_solving e prepared other is = tt

  pub alike_by_pieces : (a b : CompileError) → a ≢ Memory → b ≢ Memory → IsRefusedByPieces domain ps a → IsRefusedByPieces domain ps b → AreAlike a b
  alike_by_pieces a b u v first second =
      ⊎_elim
      (λ limit. inr (inr (inl (limit, found_by_solving b (prepared_by a limit first) v second))))
      (λ at. ⊎_elim
      (λ limit. inr (inr (inr (limit, found_by_solving a (prepared_by b limit second) u first))))
      (λ also. same_question a b at also)
      (placed b v second))
      (placed a u first)

  -- ---- beside a network
  none_beside : (k : ℕ) (net : Network) (e : CompileError) → IsNetworkOfPieces k domain ps net → AtForms e → ⊥
  none_beside k net e is at =
      let p = is.checked.prepared in
      let cells = past e is.checked.covers (past e is.checked.agree (past e p.differences (past e p.conditions (past e p.few at)))) in
      past e (few_nodes domain ps is.checked is.formula is.is_formula is.few_nodes) (past e (few_cells domain ps is.formula is.is_formula) cells)

  limit_by_pieces : (k : ℕ) (net : Network) (e : CompileError) → e ≢ Memory → IsNetworkOfPieces k domain ps net → IsRefusedByPieces domain ps e → IsSolvingLimit e
  limit_by_pieces k net e other is refused = ⊎_elim (λ limit. limit) (λ at. absurd (none_beside k net e is at)) (placed e other refused)

  -- ---- pieces that were checked

  -- where they have not too many cells, nothing is told but a solving limit and what the formula may be refused for
  pub only_solving : AreChecked domain ps → ¬ AreTooManyCells domain (numbered_forms ps) → (e : CompileError) → e ≢ Memory → IsOfNoFormula e → IsRefusedByPieces domain ps e → IsSolvingLimit e
  only_solving checked few e other unformed refused = ⊎_elim (λ limit. limit) (λ at. absurd (none at)) (placed e other refused)
    where
      of_nodes : AtNodes e → ⊥
      of_nodes (Here fails (n, also, has, is)) = subst IsOfNoFormula is unformed
      of_nodes (Behind holds none) = none

      none : AtForms e → ⊥
      none at =
          let p = checked.prepared in
          of_nodes (past e few (past e checked.covers (past e checked.agree (past e p.differences (past e p.conditions (past e p.few at))))))

-- ---- each kind

pub alike : (k : ℕ) (kind : Kind) (first second : CompileError) → first ≢ Memory → second ≢ Memory → IsRefused k kind first → IsRefused k kind second → AreAlike first second
alike k (ByFormula e) first second u v is also = absurd (u is)
alike k (ByPieces ps) first second u v is also = alike_by_pieces (domain_for k (ByPieces ps)) ps first second u v is also
alike k (ByLeast forms) first second u v is also = absurd (u is)

pub limit_beside : (k : ℕ) (kind : Kind) (net : Network) (error : CompileError) → error ≢ Memory → IsNetworkOf k kind net → IsRefused k kind error → IsSolvingLimit error
limit_beside k (ByFormula e) net error other network is = absurd (other is)
limit_beside k (ByPieces ps) net error other network is = limit_by_pieces (domain_for k (ByPieces ps)) ps k net error other network is
limit_beside k (ByLeast forms) net error other network is = absurd (other is)
