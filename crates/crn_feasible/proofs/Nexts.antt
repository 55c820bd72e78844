-- What follows for the next value from what the steps of the code answer.
use Rattle.std.proofs.Common.{◌≡◌, Bool, true, false, cond, ◌&&◌, List, [], ◌∷◌, ◌++◌, Result, Ok, Err, refl, sym, ap, ap₂, ◌∙◌, ℕ, zero, suc, ◌-◌, arith}
use Rattle.std.specs.Prelude.{pos, MatchResult}
use Rattle.std.specs.List.{list_all}
use Rattle.std.proofs.lemmas.List.Folds.{list_all-append}
use Rattle.std.proofs.lemmas.Bool.{and_right}
use Rattle.crn_fraction.specs.Rational.{ℚ}
use Rattle.crn_linear.specs.Cleared.{common_den}
use Rattle.crn_feasible.specs.declared.rows.Ending.{Ending}
use Rattle.crn_feasible.specs.declared.rows.Ending.TheVariants.{Refuted, TooBig, TooManyRows, Memory}
use Rattle.crn_feasible.specs.Elimination.{Stop, passes, Kept, after, fits, fits_ℚ, numerators_over, with_next, next, coordinates, without, take_rows}
use Rattle.crn_feasible.specs.Steps.{Ends, Goes}
use Rattle.crn_feasible.specs.declared.values.Values.{Values}
use Rattle.crn_feasible.specs.Chosen.{Misses, IsWritten}
use Rattle.crn_feasible.proofs.Tops.{all_small}

pub misses_ends : {A : Type 0} (P : Type 0) (e : Ending) (r : Result A Stop) → (P → r ≡ Err passes) → Misses P e → Ends r e
misses_ends P (Refuted c) r h m = absurd m
misses_ends P TooBig r h m = h m
misses_ends P TooManyRows r h m = absurd m
misses_ends P Memory r h m = tt

module _ (lows highs xs : List ℚ) (x : ℚ) where
  abbrev tests : Bool
  tests = list_all fits_ℚ (lows ++ highs ++ x ∷ [])

  abbrev tops_fit : Bool
  tops_fit = list_all fits (pos (common_den (xs ++ x ∷ [])) ∷ numerators_over (common_den (xs ++ x ∷ [])) (xs ++ x ∷ []))

  parts : tests ≡ (list_all fits_ℚ lows && list_all fits_ℚ highs) && (fits_ℚ x && true)
  parts =
      list_all-append fits_ℚ (lows ++ highs) (x ∷ []) ∙ ap (λ t. t && (fits_ℚ x && true)) (list_all-append fits_ℚ lows highs)

  by_tests : (a b : Bool) → (a && b) ≡ false → cond (a && b) (Ok (xs ++ x ∷ [])) (Err passes) ≡ Err passes
  by_tests a b h = ap (λ t. cond t (Ok (xs ++ x ∷ [])) (Err passes)) h

  missed_first : tests ≡ false → with_next lows highs xs x ≡ Err passes
  missed_first h = by_tests tests tops_fit (ap (λ t. t && tops_fit) h)

  -- a lower bound that is too big
  pub low_missed : list_all fits_ℚ lows ≡ false → with_next lows highs xs x ≡ Err passes
  low_missed h = missed_first (parts ∙ ap (λ t. (t && list_all fits_ℚ highs) && (fits_ℚ x && true)) h)

  -- an upper bound
  pub high_missed : list_all fits_ℚ highs ≡ false → with_next lows highs xs x ≡ Err passes
  high_missed h =
      missed_first (parts ∙ ap (λ t. t && (fits_ℚ x && true)) (and_right (list_all fits_ℚ lows) (list_all fits_ℚ highs) h))

  -- the value
  pub value_missed : fits_ℚ x ≡ false → with_next lows highs xs x ≡ Err passes
  value_missed h =
      missed_first (parts ∙ and_right (list_all fits_ℚ lows && list_all fits_ℚ highs) (fits_ℚ x && true) (ap (λ t. t && true) h))

  -- the denominator or a numerator
  pub top_missed : tops_fit ≡ false → with_next lows highs xs x ≡ Err passes
  top_missed h = by_tests tests tops_fit (and_right tests tops_fit h)

  -- nothing is
  pub all_fit : list_all fits_ℚ lows ≡ true → list_all fits_ℚ highs ≡ true → fits_ℚ x ≡ true → tops_fit ≡ true → with_next lows highs xs x ≡ Ok (xs ++ x ∷ [])
  all_fit h k l m =
      let first : tests ≡ true = parts ∙ ap₂ (λ s t. (s && t) && (fits_ℚ x && true)) h k ∙ ap (λ t. t && true) l in
      ap₂ (λ s t. cond (s && t) (Ok (xs ++ x ∷ [])) (Err passes)) first m

-- the last call, over the values with one more
pub finished : (r : Result Values Ending) (lows highs xs : List ℚ) (x : ℚ) (all : List ℚ) → all ≡ xs ++ x ∷ []
    → list_all fits_ℚ lows ≡ true → list_all fits_ℚ highs ≡ true → fits_ℚ x ≡ true
    → MatchResult r (λ s. (s.exact.items ≡ all) × IsWritten s) (Misses (list_all fits (pos (common_den all) ∷ numerators_over (common_den all) all) ≡ false))
    → Goes r (λ (s : Values). s.exact.items) (with_next lows highs xs x)
finished (Ok s) lows highs xs x all e h k l m =
    let same : s.exact.items ≡ xs ++ x ∷ [] = m.0 ∙ e in
    let small : list_all fits (pos s.den ∷ s.tops.items) ≡ true = all_small s.den s.tops.items m.1.den_small m.1.tops_small in
    let den : s.den ≡ common_den (xs ++ x ∷ []) = m.1.den_is ∙ ap common_den same in
    let tops : s.tops.items ≡ numerators_over (common_den (xs ++ x ∷ [])) (xs ++ x ∷ []) = m.1.tops_are ∙ ap₂ numerators_over den same in
    all_fit lows highs xs x h k l (ap₂ (λ d ts. list_all fits (pos d ∷ ts)) (sym den) (sym tops) ∙ small) ∙ ap (λ (ys : List ℚ). Ok ys) (sym same)
finished (Err d) lows highs xs x all e h k l m =
    misses_ends (list_all fits (pos (common_den all) ∷ numerators_over (common_den all) all) ≡ false) d (with_next lows highs xs x)
    (λ n. top_missed lows highs xs x (ap (λ ys. list_all fits (pos (common_den ys) ∷ numerators_over (common_den ys) ys)) (sym e) ∙ n)) m

-- ---- column by column
pub coordinates-step : (v : ℕ) (rows : List Kept) → (v ≡ 0 → ⊥) → coordinates v rows ≡ after (take_rows [] (without (v - 1) rows)) (λ rest. after (coordinates (v - 1) rest) (next (v - 1) rows))
coordinates-step zero rows h = absurd (h refl)
coordinates-step (suc v) rows h =
    let e : v ≡ suc v - 1 = omega arith in
    ap (λ n. after (take_rows [] (without n rows)) (λ rest. after (coordinates n rest) (next n rows))) e
