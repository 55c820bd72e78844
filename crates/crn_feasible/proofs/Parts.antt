-- What each row gives where a column is eliminated.
use Rattle.std.proofs.Common.{◌≡◌, ℕ, zero, suc, ◌+◌, ◌-◌, ◌<◌, Bool, true, false, cond, List, [], ◌∷◌, length, get_or, map, ap, ap₂, ◌∙◌, sym, subst, refl, arith}
use Rattle.crn_linear.specs.Rows.{Row}
use Rattle.std.specs.Prelude.{pos, int_lt}
use Rattle.std.specs.List.{All, filter, flat_map}
use Rattle.std.proofs.Math.ListN.{get_or-map}
use Rattle.std.proofs.lemmas.List.{length-map}
use Rattle.std.proofs.lemmas.List.Elements.{All-filter}
use Rattle.std.specs.Ordering.{int_eq}
use Rattle.crn_feasible.specs.declared.rows.KeptRow.{KeptRow}
use Rattle.crn_feasible.specs.Elimination.{Kept, entry, zeros, positives, negatives, combined, unit, started}
use Rattle.crn_feasible.specs.Steps.{kept_of, is_negative_at}
use Rattle.crn_feasible.proofs.Turns.{flat_map-filter, flat_map-same, entry_there}

-- a row with entry 0 gives itself
abbrev pub zero_part : (columns sources v : ℕ) → KeptRow → List Kept
zero_part columns sources v r = cond (int_eq (entry v (kept_of columns sources r)) (pos 0)) (kept_of columns sources r ∷ []) []

pub zero_parts : (columns sources v : ℕ) (rows : List KeptRow) → flat_map (zero_part columns sources v) rows ≡ zeros v (map (kept_of columns sources) rows)
zero_parts columns sources v rows =
    flat_map-filter (λ k. int_eq (entry v k) (pos 0)) (λ k. k ∷ []) (kept_of columns sources) rows ∙ flat_map-same (zeros v (map (kept_of columns sources) rows))

-- a row with a positive entry gives its combinations with those that have a negative one
abbrev pub pairs_part : (columns sources v : ℕ) → List Kept → KeptRow → List Kept
pairs_part columns sources v below r = cond (int_lt (pos 0) (entry v (kept_of columns sources r))) (map (combined v (kept_of columns sources r)) below) []

pub pairs_parts : (columns sources v : ℕ) (below : List Kept) (rows : List KeptRow)
    → flat_map (pairs_part columns sources v below) rows ≡ flat_map (λ p. map (combined v p) below) (positives v (map (kept_of columns sources) rows))
pairs_parts columns sources v below rows = flat_map-filter (λ k. int_lt (pos 0) (entry v k)) (λ p. map (combined v p) below) (kept_of columns sources) rows

-- those that have a negative one
pub negatives_are : (columns sources v : ℕ) (rows : List KeptRow) → v < columns → map (kept_of columns sources) (filter (is_negative_at v) rows) ≡ negatives v (map (kept_of columns sources) rows)
negatives_are columns sources v [] h = refl
negatives_are columns sources v (r ∷ rows) h =
    by (is_negative_at v r) (int_lt (entry v (kept_of columns sources r)) (pos 0)) (ap (λ x. int_lt x (pos 0)) (entry_there columns sources v r h)) (negatives_are columns sources v rows h)
  where
    by : (s t : Bool) → s ≡ t → map (kept_of columns sources) (filter (is_negative_at v) rows) ≡ negatives v (map (kept_of columns sources) rows)
        → map (kept_of columns sources) (cond s (r ∷ filter (is_negative_at v) rows) (filter (is_negative_at v) rows))
        ≡ cond t (kept_of columns sources r ∷ negatives v (map (kept_of columns sources) rows)) (negatives v (map (kept_of columns sources) rows))
    by true true e rest = ap (λ ks. kept_of columns sources r ∷ ks) rest
    by true false e rest = cc
    by false true e rest = cc
    by false false e rest = rest

module _ {R : Type 0} (now : R → KeptRow) (refs : List R) (rows : List KeptRow) (columns sources v : ℕ) (are : map now refs ≡ filter (is_negative_at v) rows) where
  -- the combinations of a row with them
  pub pairs_of : (m n : ℕ) (p : KeptRow) → m ≡ columns → n ≡ sources → v < columns
      → map (λ r. combined v (kept_of m n p) (kept_of m n (now r))) refs ≡ map (combined v (kept_of columns sources p)) (negatives v (map (kept_of columns sources) rows))
  pairs_of m n p e f h =
      let first : Kept = kept_of columns sources p in
      ap₂ (λ k l. map (λ r. combined v (kept_of k l p) (kept_of k l (now r))) refs) e f ∙ in_turn refs
      ∙ ap (λ rs. map (combined v first) (map (kept_of columns sources) rs)) are ∙ ap (map (combined v first)) (negatives_are columns sources v rows h)
    where
      in_turn : (refs : List R) → map (λ r. combined v (kept_of columns sources p) (kept_of columns sources (now r))) refs ≡ map (combined v (kept_of columns sources p)) (map (kept_of columns sources) (map now refs))
      in_turn [] = refl
      in_turn (r ∷ refs) = ap (λ ks. combined v (kept_of columns sources p) (kept_of columns sources (now r)) ∷ ks) (in_turn refs)

  -- what holds of all rows holds of them
  pub among_rows : (P : KeptRow → Type 0) → All P rows → All (λ r. P (now r)) refs
  among_rows P all = λ k d l.
      let within : k < length (map now refs) = omega (arith, l, length-map refs now) in
      let kept : P (get_or (map now refs) k (now d)) = (subst (All P) (sym are) (All-filter (is_negative_at v) P rows all)) k (now d) within in
      subst P (get_or-map now refs k d) kept

-- ---- the first rows
pub length-started : (k : ℕ) (rows : List Row) → length (started k rows) ≡ length rows
length-started k [] = refl
length-started k (r ∷ rows) = ap suc (length-started (suc k) rows)

pub started-at : (k : ℕ) (rows : List Row) (i : ℕ) (r : Row) (d : Kept) → i < length rows → r ≡ get_or rows i r
    → get_or (started k rows) i d ≡ record { row = r; multipliers = unit (k + i) (length rows - i - 1) }
started-at k [] i r d l e = absurd (omega arith)
started-at k (x ∷ rows) zero r d l e =
    let before : k ≡ k + 0 = omega arith in
    let behind : length rows ≡ suc (length rows) - 0 - 1 = omega arith in
    ap₂ (λ (s : Row) ms. record { row = s; multipliers = ms }) (sym e) (ap₂ unit before behind)
started-at k (x ∷ rows) (suc i) r d l e =
    let before : suc k + i ≡ k + suc i = omega arith in
    let behind : length rows - i - 1 ≡ suc (length rows) - suc i - 1 = omega arith in
    started-at (suc k) rows i r d (omega arith) e ∙ ap (λ ms. record { row = r; multipliers = ms }) (ap₂ unit before behind)
