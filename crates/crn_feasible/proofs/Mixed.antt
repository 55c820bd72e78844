-- Combinations of rows, number by number.
use Rattle.std.proofs.Common.{◌≡◌, ℕ, Bool, true, false, cond, not, List, [], ◌∷◌, ◌++◌, Ok, Err, ap, ap₂, ◌∙◌}
use Rattle.std.specs.Prelude.{ℤ, pos}
use Rattle.std.specs.List.{list_all}
use Rattle.crn_farkas.specs.Mixtures.{mixed}
use Rattle.crn_feasible.specs.declared.rows.Ending.{Ending}
use Rattle.crn_feasible.specs.declared.rows.Ending.TheVariants.{Refuted, TooBig, TooManyRows, Memory}
use Rattle.crn_feasible.specs.Elimination.{refuted, passes, too_many, Kept, fits, reduced, kept_with, take_row}
use Rattle.crn_feasible.specs.Steps.{Ends, Combines, kept, mixed_rows}
use Rattle.crn_feasible.proofs.Directions.{mixed-one}

-- a row alone is once itself
pub alone : (k : Kept) → mixed_rows (pos 1) k (pos 0) k ≡ k
alone k = by k.row.entries k.row.strict k.multipliers
  where
    by : (xs : List ℤ) (s : Bool) (ys : List ℤ)
        → ◌≡◌ {A = Kept} (record { row = record { entries = mixed (pos 1) xs (pos 0) xs; strict = cond s true s }; multipliers = mixed (pos 1) ys (pos 0) ys })
        (record { row = record { entries = xs; strict = s }; multipliers = ys })
    by xs true ys = ap₂ (λ us vs. record { row = record { entries = us; strict = true }; multipliers = vs }) (mixed-one xs) (mixed-one ys)
    by xs false ys = ap₂ (λ us vs. record { row = record { entries = us; strict = false }; multipliers = vs }) (mixed-one xs) (mixed-one ys)

passes_by : (f z s d m : Bool) (rows : List Kept) (r : Kept)
    → f ≡ false → cond (not f) (Err passes) (cond z (cond s (Err (refuted r.multipliers)) (Ok rows)) (cond d (Ok rows) (cond m (Err too_many) (Ok (rows ++ r ∷ []))))) ≡ Err passes
passes_by f z s d m rows r h = simp h

-- a row with a number that is too big
row_passes : (rows : List Kept) (k : Kept) → list_all fits (k.row.entries ++ k.multipliers) ≡ false → kept_with rows k ≡ Err passes
row_passes rows k h = passes_by _ _ _ _ _ rows k h

module _ (rows : List Kept) (columns sources : ℕ) (k : Kept) (ms : List (ℕ × ℤ)) where
  -- what a combination that could not be written ends with
  pub combined_ends : (e : Ending) → Combines (Err e) columns sources k ms → Ends (take_row rows k) e
  combined_ends (Refuted c) h = absurd h
  combined_ends TooBig h = row_passes rows (reduced k) h
  combined_ends TooManyRows h = absurd h
  combined_ends Memory h = tt

  -- a combination that was written is taken
  pub combined_taken : (entries : List ℤ) (strict : Bool) → strict ≡ k.row.strict → kept columns sources entries ms k.row.strict ≡ reduced k
      → kept_with rows (kept columns sources entries ms strict) ≡ take_row rows k
  combined_taken entries strict s h = ap (λ t. kept_with rows (kept columns sources entries ms t)) s ∙ ap (kept_with rows) h
