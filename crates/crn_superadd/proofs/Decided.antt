-- Pieces that were checked on the orthant have used forms that serve, or there is a cause why they have none.
use Rattle.std.proofs.Common.{◌≡◌, ◌⊎◌, inl, inr, ⊎_elim, ℕ, zero, suc, ◌<◌, ◌≤◌, List, [], ◌∷◌, length, refl, sym, ap, ◌∙◌, subst, arith}
use Rattle.std.specs.Prelude.{◌≢◌, Option, Some, None}
use Rattle.std.proofs.lemmas.Bool.{cases_lt}
use Rattle.crn_fraction.specs.Rational.{ℚ, 0ℚ, ◌<ℚ◌, ◌≤ℚ◌}
use Rattle.crn_fraction.proofs.Order.{≤ℚ_or_<ℚ}
use Rattle.crn_fraction.proofs.Linear.{not_<ℚ}
use Rattle.crn_linear.specs.Forms.{entry_of}
use Rattle.crn_formula.specs.Pieces.{Piece, Domain, columns_of}
use Rattle.crn_formula.specs.Domains.{unit, orthant}
use Rattle.crn_pieces.specs.Answers.{AreChecked}
use Rattle.crn_cells.specs.Answers as cells
use Rattle.crn_cells.specs.declared.CellsError.{CellsError}
use Rattle.crn_cells.specs.declared.CellsError.TheVariants as no_cells
use Rattle.crn_cells.proofs.Decided as deciding
use Rattle.crn_cells.proofs.Members.{Has, Has-Contains, Contains-Has}
use Rattle.crn_maxmin.specs.Marked.{Marked, numbered_forms, AreAllCells}
use Rattle.crn_maxmin.proofs.Prepared.{long_pieces}
use Rattle.crn_maxmin.proofs.Decided as marking
use Rattle.crn_superadd.specs.Superadditive.{IsNegativeIn, NoneBelow, used_forms, least_times}
use Rattle.crn_superadd.specs.Answers.{lowest_used, cell_at, IsFirstBelow, AreUsedForms, IsRefused}
use Rattle.crn_superadd.specs.declared.SuperError.{SuperError}
use Rattle.crn_superadd.specs.declared.SuperError.TheVariants.{TooBig, TooManyRows, TooManyCells, NotSuperadditive, Negative, Memory}
use Rattle.crn_superadd.proofs.Answering.{found_used, none_below, refuted, negative, used_serve}
use Rattle.crn_superadd.proofs.Searching.{some_place}

-- why there are no such forms, want of memory aside
abbrev pub IsRefusedForCause : Domain → List Piece → Type 0
IsRefusedForCause D P = (e : SuperError) × (e ≢ Memory) × IsRefused D P e

abbrev pub HasUsedForms : Domain → List Piece → Type 0
HasUsedForms D P = (forms : List (List ℚ)) × AreUsedForms D P forms

-- ---- searches

-- the first number below n of the one kind, or all are of the other kind
first_or_all : (A B : ℕ → Type 0) → ((i : ℕ) → A i ⊎ B i) → (n : ℕ) → ((i : ℕ) × (i < n) × A i × ((j : ℕ) → j < i → B j)) ⊎ ((i : ℕ) → i < n → B i)
first_or_all A B test zero = inr (λ i l. absurd (omega (arith, l)))
first_or_all A B test (suc n) = go (first_or_all A B test n)
  where
    last : ((i : ℕ) → i < n → B i) → B n → (i : ℕ) → i < suc n → B i
    last all b i l = ⊎_elim (λ (h : i < n). all i h) (λ (h : n ≤ i). let e : n ≡ i = omega (arith, h, l) in subst B e b) (cases_lt i n)

    go : ((i : ℕ) × (i < n) × A i × ((j : ℕ) → j < i → B j)) ⊎ ((i : ℕ) → i < n → B i) → ((i : ℕ) × (i < suc n) × A i × ((j : ℕ) → j < i → B j)) ⊎ ((i : ℕ) → i < suc n → B i)
    go (inl (i, l, a, before)) = inl (i, omega (arith, l), a, before)
    go (inr all) = ⊎_elim (λ a. inl (n, omega arith, a, all)) (λ b. inr (last all b)) (test n)

same_number_or_not : (m n : ℕ) → (m ≡ n) ⊎ (m ≢ n)
same_number_or_not zero zero = inl refl
same_number_or_not zero (suc n) = inr (λ e. cc e)
same_number_or_not (suc m) zero = inr (λ e. cc e)
same_number_or_not (suc m) (suc n) = ⊎_elim (λ e. inl (ap suc e)) (λ d. inr (λ e. d (omega (arith, e)))) (same_number_or_not m n)

-- a form with a negative coefficient in the column, or none has one
negative_or_none : (i : ℕ) (forms : List (List ℚ)) → ((f : List ℚ) × Has f forms × (entry_of f i <ℚ 0ℚ)) ⊎ ((f : List ℚ) → Has f forms → ¬ (entry_of f i <ℚ 0ℚ))
negative_or_none i [] = inr (λ f h. absurd h)
negative_or_none i (g ∷ forms) = go (≤ℚ_or_<ℚ 0ℚ (entry_of g i)) (negative_or_none i forms)
  where
    none : 0ℚ ≤ℚ entry_of g i → ((f : List ℚ) → Has f forms → ¬ (entry_of f i <ℚ 0ℚ)) → (f : List ℚ) → Has f (g ∷ forms) → ¬ (entry_of f i <ℚ 0ℚ)
    none p rest f h = ⊎_elim (λ (s : g ≡ f). subst (λ t. ¬ (entry_of t i <ℚ 0ℚ)) s (λ n. not_<ℚ 0ℚ (entry_of g i) p n)) (λ t. rest f t) h

    go : (0ℚ ≤ℚ entry_of g i) ⊎ (entry_of g i <ℚ 0ℚ) → ((f : List ℚ) × Has f forms × (entry_of f i <ℚ 0ℚ)) ⊎ ((f : List ℚ) → Has f forms → ¬ (entry_of f i <ℚ 0ℚ))
        → ((f : List ℚ) × Has f (g ∷ forms) × (entry_of f i <ℚ 0ℚ)) ⊎ ((f : List ℚ) → Has f (g ∷ forms) → ¬ (entry_of f i <ℚ 0ℚ))
    go (inr n) rest = inl (g, inl refl, n)
    go (inl p) (inl (f, h, n)) = inl (f, inr h, n)
    go (inl p) (inr rest) = inr (none p rest)

column_decided : (forms : List (List ℚ)) (i : ℕ) → IsNegativeIn forms i ⊎ (¬ IsNegativeIn forms i)
column_decided forms i = go (negative_or_none i forms)
  where
    go : ((f : List ℚ) × Has f forms × (entry_of f i <ℚ 0ℚ)) ⊎ ((f : List ℚ) → Has f forms → ¬ (entry_of f i <ℚ 0ℚ)) → IsNegativeIn forms i ⊎ (¬ IsNegativeIn forms i)
    go (inl (f, h, n)) = let c = Contains-Has f forms h in inl (c.0, f, c.1, c.2, n)
    go (inr none) = inr (λ a. none a.1 (Has-Contains a.1 forms (a.0, a.2, a.3)) a.4)

-- ---- cells

module _ (n : ℕ) (P : List Piece) (checked : AreChecked (orthant n) P) where
  abbrev D : Domain
  D = orthant n

  module _ (ms : List Marked) (all : AreAllCells D P ms) (few : length ms ≤ 4096) where
    abbrev Finds : ℕ → Type 0
    Finds i = (form : ℕ) × (lowest_used ms (cell_at ms i) ≡ Some form)

    abbrev FindsNone : ℕ → Type 0
    FindsNone i = lowest_used ms (cell_at ms i) ≡ None

    finds_or_not : (i : ℕ) → Finds i ⊎ FindsNone i
    finds_or_not i = go (lowest_used ms (cell_at ms i)) refl
      where
        go : (o : Option ℕ) → lowest_used ms (cell_at ms i) ≡ o → Finds i ⊎ FindsNone i
        go None e = inr e
        go (Some form) e = inl (form, e)

    -- the first cell that has a used form
    first_with : (form high : ℕ) → lowest_used ms (cell_at ms high) ≡ Some form
        → (i : ℕ) × (i < length ms) × ((cell_at ms i).form ≡ form) × ((j : ℕ) → j < i → (cell_at ms j).form ≢ form)
    first_with form high e =
        ⊎_elim
        (λ found. found)
        (λ none. absurd (some_place ms form (length ms) (found_used ms (cell_at ms high) form e) (omega arith) none))
        (first_or_all (λ i. (cell_at ms i).form ≡ form) (λ i. (cell_at ms i).form ≢ form) (λ i. same_number_or_not (cell_at ms i).form form) (length ms))

    -- a cell in which a used form stands below that of the cell
    below : (high : ℕ) → high < length ms → Finds high → ((j : ℕ) → j < high → FindsNone j) → IsRefusedForCause D P
    below high l (form, found) before =
        let (low, within, is, first) = first_with form high found in
        let places : IsFirstBelow ms low high = record {
          low_within = within;
          high_within = l;
          found = found ∙ ap Some (sym is);
          none_before = before;
          first_with = λ j k. subst (λ f. (cell_at ms j).form ≢ f) (sym is) (first j k);
        } in
        let (p, at_first) = all.marked low (record { order = []; form = 0 }) within in
        let (q, at_second) = all.marked high (record { order = []; form = 0 }) l in
        let t = least_times (numbered_forms P) (cell_at ms low).order p q in (
          NotSuperadditive p t q,
          (λ e. cc e),
          refuted D P ms checked.is_domain (long_pieces D P checked.long) checked.covers checked.agree all few low high places p q at_first at_second t refl,
        )

    -- and where there is none, a negative coefficient, or none of these either
    by_columns : NoneBelow ms → HasUsedForms D P ⊎ IsRefusedForCause D P
    by_columns none =
        let forms = used_forms (numbered_forms P) ms in
        ⊎_elim
        (λ (h : (i : ℕ) × (i < columns_of D) × IsNegativeIn forms i × ((j : ℕ) → j < i → ¬ IsNegativeIn forms j)).
        inr (
          Negative (unit (columns_of D) h.0),
          (λ e. cc e),
          negative D P ms checked.is_domain (long_pieces D P checked.long) checked.covers checked.agree all few n refl none h.0 h.1 h.2 h.3 (unit (columns_of D) h.0) refl,
        ))
        (λ (h : (i : ℕ) → i < columns_of D → ¬ IsNegativeIn forms i).
        inl (forms, used_serve D P ms checked.is_domain (long_pieces D P checked.long) checked.covers checked.agree all few n refl none checked.prepared.few h forms refl))
        (first_or_all (IsNegativeIn forms) (λ i. ¬ IsNegativeIn forms i) (column_decided forms) (columns_of D))

    by_cells : HasUsedForms D P ⊎ IsRefusedForCause D P
    by_cells =
        ⊎_elim
        (λ (h : (i : ℕ) × (i < length ms) × Finds i × ((j : ℕ) → j < i → FindsNone j)). inr (below h.0 h.1 h.2 h.3))
        (λ (h : (i : ℕ) → i < length ms → FindsNone i). by_columns (none_below ms h))
        (first_or_all Finds FindsNone finds_or_not (length ms))

  cells_refused : (e : CellsError) → e ≢ no_cells.Memory → cells.IsRefused D (numbered_forms P) e → IsRefusedForCause D P
  cells_refused (no_cells.TooBig kept) cause h = (TooBig kept, (λ e. cc e), h)
  cells_refused (no_cells.TooManyRows kept) cause h = (TooManyRows kept, (λ e. cc e), h)
  cells_refused (no_cells.TooManyCells count) cause h = (TooManyCells count, (λ e. cc e), h)
  cells_refused no_cells.Memory cause h = absurd (cause refl)

  -- there are used forms that serve, or there is a cause why not
  pub decided : HasUsedForms D P ⊎ IsRefusedForCause D P
  decided = go (marking.cells_decided D P checked)
    where
      go : marking.HasFewCells D P checked ⊎ deciding.IsRefusedForCause D (numbered_forms P) → HasUsedForms D P ⊎ IsRefusedForCause D P
      go (inl (ms, all, few)) = by_cells ms all few
      go (inr (e, cause, h)) = inr (cells_refused e cause h)
