-- Pieces that were checked have at most 4,096 cells and a formula of at most 2,048 nodes, or there is a cause why not.
use Rattle.std.proofs.Common.{◌≡◌, ◌⊎◌, inl, inr, ⊎_elim, ℕ, ◌<◌, ◌≤◌, List, [], ◌∷◌, length, map, refl, sym, ap, ap₂, ◌∙◌, subst, arith}
use Rattle.std.specs.Prelude.{◌≢◌, All, Some}
use Rattle.std.proofs.lemmas.Bool.{cases_lt}
use Rattle.std.proofs.lemmas.List.{length-map}
use Rattle.std.proofs.lemmas.List.Elements.{All-nil, All-cons, All-head, All-tail}
use Rattle.crn_fraction.specs.Rational.{ℚ}
use Rattle.crn_linear.specs.Forms.{at, wholes}
use Rattle.crn_formula.specs.Formulas.{Formula, node_count}
use Rattle.crn_formula.specs.Pieces.{Piece, Domain}
use Rattle.crn_pieces.specs.Answers.{AreChecked}
use Rattle.crn_cells.specs.Cells.{IsCell, AreCells}
use Rattle.crn_cells.specs.Answers as cells
use Rattle.crn_cells.specs.declared.CellsError.{CellsError}
use Rattle.crn_cells.specs.declared.CellsError.TheVariants as no_cells
use Rattle.crn_cells.proofs.Decided as deciding
use Rattle.crn_maxmin.specs.Marked.{Marked, numbered_forms, IsMarked, AreAllCells}
use Rattle.crn_maxmin.specs.Conversion.{formula_of}
use Rattle.crn_maxmin.specs.Answers.{IsFormulaOf, IsRefused}
use Rattle.crn_maxmin.specs.declared.MaxminError.{MaxminError}
use Rattle.crn_maxmin.specs.declared.MaxminError.TheVariants.{TooBig, TooManyRows, TooManyCells, TooManyNodes, Memory}
use Rattle.crn_maxmin.proofs.Prepared.{long_pieces, long_forms, distinct_forms_differ}
use Rattle.crn_maxmin.proofs.InCells.{some_value, value_of, number_in}

-- why pieces have no formula, want of memory aside
abbrev pub IsRefusedForCause : Domain → List Piece → Type 0
IsRefusedForCause D P = (e : MaxminError) × (e ≢ Memory) × IsRefused D P e

-- a formula of few nodes
abbrev pub HasFormula : Domain → List Piece → Type 0
HasFormula D P = (f : Formula) × IsFormulaOf D P f × (node_count f ≤ 2048)

module _ (D : Domain) (P : List Piece) (checked : AreChecked D P) where
  abbrev F : List (List ℚ)
  F = numbered_forms P

  -- a cell with the number of the form that has the value at its point
  mark : (o : List ℕ) → IsCell D F o → (c : Marked) × IsMarked D P c × (c.order ≡ o)
  mark o (p, met) =
      let x = wholes p in
      let (v, h) = some_value D P checked.covers checked.agree x met.is_in in
      let (i, below, is) = number_in D P checked.covers checked.agree h.piece h.is_one in (
        record { order = o; form = i },
        (p, record { met = met; is_form = below; value = value_of D P checked.covers checked.agree x met.is_in v h ∙ ap Some (sym h.value ∙ ap (λ f. at f x) (sym is)) }),
        refl,
      )

  marks : (orders : List (List ℕ)) → All (IsCell D F) orders → (ms : List Marked) × All (IsMarked D P) ms × (map (λ (c : Marked). c.order) ms ≡ orders)
  marks [] each = ([], All-nil (IsMarked D P), refl)
  marks (o ∷ orders) each =
      let (c, marked, is) = mark o (All-head (IsCell D F) o orders each) in
      let (ms, all, are) = marks orders (All-tail (IsCell D F) o orders each) in
      (c ∷ ms, All-cons (IsMarked D P) c ms marked all, ap₂ (λ a l. a ∷ l) is are)

  -- all cells with their forms, of which there are at most 4,096
  abbrev pub HasFewCells : Type 0
  HasFewCells = (cells : List Marked) × AreAllCells D P cells × (length cells ≤ 4096)

  all_marked : (orders : List (List ℕ)) → AreCells D F orders → length orders ≤ 4096 → HasFewCells
  all_marked orders are few =
      let (ms, marked, same) = marks orders are.each in
      (ms, record { marked = marked; orders = subst (AreCells D F) (sym same) are }, omega (arith, few, ap (length {A = List ℕ}) same, length-map ms (λ (c : Marked). c.order)))

  -- there are so few, or there is a cause why they are not known
  pub cells_decided : HasFewCells ⊎ deciding.IsRefusedForCause D F
  cells_decided = go (deciding.decided D checked.is_domain F (long_forms D P (long_pieces D P checked.long)) (distinct_forms_differ P))
    where
      go : ((orders : List (List ℕ)) × AreCells D F orders × (length orders ≤ 4096)) ⊎ deciding.IsRefusedForCause D F → HasFewCells ⊎ deciding.IsRefusedForCause D F
      go (inl (orders, are, few)) = inl (all_marked orders are few)
      go (inr cause) = inr cause

  -- the formula of all cells has few nodes, or too many
  formula_decided : HasFewCells → HasFormula D P ⊎ IsRefusedForCause D P
  formula_decided (cells, all, few) =
      let f = formula_of F cells in
      let is : IsFormulaOf D P f = record { cells = cells; all = all; few = few; is_formula = refl } in
      ⊎_elim (λ (many : 2048 < node_count f). inr (TooManyNodes (node_count f), (λ e. cc e), (f, is, refl, many))) (λ (h : node_count f ≤ 2048). inl (f, is, h)) (cases_lt 2048 (node_count f))

  cells_refused : (e : CellsError) → e ≢ no_cells.Memory → cells.IsRefused D F e → IsRefusedForCause D P
  cells_refused (no_cells.TooBig kept) cause h = (TooBig kept, (λ e. cc e), (inr (inr (checked.covers, checked.agree, h.0)), h.1))
  cells_refused (no_cells.TooManyRows kept) cause h = (TooManyRows kept, (λ e. cc e), (inr (inr (checked.covers, checked.agree, h.0)), h.1))
  cells_refused (no_cells.TooManyCells count) cause h = (TooManyCells count, (λ e. cc e), h)
  cells_refused no_cells.Memory cause h = absurd (cause refl)

  -- there is a formula, or a cause why there is none
  pub decided : HasFormula D P ⊎ IsRefusedForCause D P
  decided = go cells_decided
    where
      go : HasFewCells ⊎ deciding.IsRefusedForCause D F → HasFormula D P ⊎ IsRefusedForCause D P
      go (inl few) = formula_decided few
      go (inr (e, cause, h)) = inr (cells_refused e cause h)
