-- How a row is taken into the list, by the tests of the code.
use Rattle.std.proofs.Common.{◌≡◌, ℕ, zero, suc, ◌<◌, ◌≤◌, ◌^◌, Bool, true, false, cond, not, ◌&&◌, List, [], ◌∷◌, ◌++◌, length, map, Result, Ok, Err, refl, sym, ap, ◌∙◌, arith}
use Rattle.std.specs.Prelude.{ℤ, pos, nat_le, unsigned_abs, replicate}
use Rattle.std.specs.List.{list_all, list_any}
use Rattle.std.specs.Ordering.{int_eq}
use Rattle.std.specs.Cmp.Lexicographic.{pointwise}
use Rattle.std.proofs.lemmas.Bool.Decides.{nat_tests}
use Rattle.std.proofs.lemmas.List.Elements.{All-head, All-tail}
use Rattle.std.proofs.lemmas.Bool.{le-leb}
use Rattle.crn_linear.specs.Rows.{IsSmall, AreSmall}
use Rattle.crn_feasible.specs.declared.rows.Ending.{Ending}
use Rattle.crn_feasible.specs.declared.rows.Ending.TheVariants.{Refuted, TooBig, TooManyRows, Memory}
use Rattle.crn_feasible.specs.declared.rows.KeptRow.{KeptRow}
use Rattle.crn_feasible.specs.Steps.{Ends, Certifies, kept_of, row_direction}
use Rattle.crn_feasible.specs.Sparse.{AreSmallAt}
use Rattle.crn_feasible.specs.Elimination.{Stop, refuted, passes, too_many, Kept, fits, is_zero, same_direction, kept_with}

tests : (f z s d m : Bool) (rows : List Kept) (r : Kept)
    → (f ≡ true → z ≡ true → s ≡ true → cond (not f) (Err passes) (cond z (cond s (Err (refuted r.multipliers)) (Ok rows)) (cond d (Ok rows) (cond m (Err too_many) (Ok (rows ++ r ∷ []))))) ≡ Err (refuted r.multipliers))
    × (f ≡ true → z ≡ true → s ≡ false → cond (not f) (Err passes) (cond z (cond s (Err (refuted r.multipliers)) (Ok rows)) (cond d (Ok rows) (cond m (Err too_many) (Ok (rows ++ r ∷ []))))) ≡ Ok rows)
    × (f ≡ true → z ≡ false → d ≡ true → cond (not f) (Err passes) (cond z (cond s (Err (refuted r.multipliers)) (Ok rows)) (cond d (Ok rows) (cond m (Err too_many) (Ok (rows ++ r ∷ []))))) ≡ Ok rows)
    × (f ≡ true → z ≡ false → d ≡ false → m ≡ true → cond (not f) (Err passes) (cond z (cond s (Err (refuted r.multipliers)) (Ok rows)) (cond d (Ok rows) (cond m (Err too_many) (Ok (rows ++ r ∷ []))))) ≡ Err too_many)
    × (f ≡ true → z ≡ false → d ≡ false → m ≡ false → cond (not f) (Err passes) (cond z (cond s (Err (refuted r.multipliers)) (Ok rows)) (cond d (Ok rows) (cond m (Err too_many) (Ok (rows ++ r ∷ []))))) ≡ Ok (rows ++ r ∷ []))
tests f z s d m rows r = (
  λ a b c. simp (a, b, c),
  λ a b c. simp (a, b, c),
  λ a b c. simp (a, b, c),
  λ a b c e. simp (a, b, c, e),
  λ a b c e. simp (a, b, c, e),
)

fit_one : (x : ℤ) → IsSmall x → fits x ≡ true
fit_one x h = le-leb (unsigned_abs x) (2 ^ 59) h.size

pub all_fit : (xs : List ℤ) → AreSmall xs → list_all fits xs ≡ true
all_fit [] h = refl
all_fit (x ∷ xs) h = rw (fit_one x (All-head IsSmall x xs h)) (all_fit xs (All-tail IsSmall x xs h))

pub all_fit_at : (ms : List (ℕ × ℤ)) → AreSmallAt ms → list_all (λ m. fits m.1) ms ≡ true
all_fit_at [] h = refl
all_fit_at (m ∷ ms) h = rw (fit_one m.1 (All-head (λ m. IsSmall m.1) m ms h)) (all_fit_at ms (All-tail (λ m. IsSmall m.1) m ms h))

module _ (rows : List Kept) (k : Kept) (fit : list_all fits (k.row.entries ++ k.multipliers) ≡ true) where
  pub ends_refuted : is_zero k ≡ true → k.row.strict ≡ true → kept_with rows k ≡ Err (refuted k.multipliers)
  ends_refuted z s = (tests _ _ _ _ _ rows k).0 fit z s

  pub drops_zero : is_zero k ≡ true → k.row.strict ≡ false → kept_with rows k ≡ Ok rows
  drops_zero z s = (tests _ _ _ _ _ rows k).1 fit z s

  pub drops_same : is_zero k ≡ false → list_any (same_direction k) rows ≡ true → kept_with rows k ≡ Ok rows
  drops_same z d = (tests _ _ _ _ _ rows k).2 fit z d

  pub ends_full : is_zero k ≡ false → list_any (same_direction k) rows ≡ false → nat_le 4096 (length rows) ≡ true → kept_with rows k ≡ Err too_many
  ends_full z d m = (tests _ _ _ _ _ rows k).3 fit z d m

  pub appends : is_zero k ≡ false → list_any (same_direction k) rows ≡ false → nat_le 4096 (length rows) ≡ false → kept_with rows k ≡ Ok (rows ++ k ∷ [])
  appends z d m = (tests _ _ _ _ _ rows k).4 fit z d m

-- ---- padded directions
pointwise_zeros : (n : ℕ) → pointwise int_eq (replicate n (pos 0)) (replicate n (pos 0)) ≡ true
pointwise_zeros zero = refl
pointwise_zeros (suc n) = pointwise_zeros n

pub pointwise_padded : (n : ℕ) (xs ys : List ℤ) → length xs ≡ length ys → pointwise int_eq (xs ++ replicate n (pos 0)) (ys ++ replicate n (pos 0)) ≡ pointwise int_eq xs ys
pointwise_padded n [] [] h = pointwise_zeros n
pointwise_padded n [] (y ∷ ys) h = absurd (omega (arith, h))
pointwise_padded n (x ∷ xs) [] h = absurd (omega (arith, h))
pointwise_padded n (x ∷ xs) (y ∷ ys) h = ap (λ t. int_eq x y && t) (pointwise_padded n xs ys (omega (arith, h)))

-- ---- the lists of the code
-- a call that ends with these multipliers ends as a refutation does
pub ends_by : (e : Ending) (ms : List ℤ) (r : Result (List Kept) Stop) → Certifies e ms → r ≡ Err (refuted ms) → Ends r e
ends_by (Refuted c) ms r h k = k ∙ ap (λ (t : List ℤ). Err (refuted t)) (sym h)
ends_by TooBig ms r h k = absurd h
ends_by TooManyRows ms r h k = absurd h
ends_by Memory ms r h k = tt

pub length-list : (columns sources : ℕ) (rows : List KeptRow) → length (map (kept_of columns sources) rows) ≡ length rows
length-list columns sources [] = refl
length-list columns sources (r ∷ rows) = ap suc (length-list columns sources rows)

pub list_push : (columns sources : ℕ) (rows : List KeptRow) (r : KeptRow) → map (kept_of columns sources) rows ++ kept_of columns sources r ∷ [] ≡ map (kept_of columns sources) (rows ++ r ∷ [])
list_push columns sources [] r = refl
list_push columns sources (x ∷ rows) r = ap (λ t. kept_of columns sources x ∷ t) (list_push columns sources rows r)

pub directions_push : (columns : ℕ) (rows : List KeptRow) (r : KeptRow) → map (row_direction columns) rows ++ row_direction columns r ∷ [] ≡ map (row_direction columns) (rows ++ r ∷ [])
directions_push columns [] r = refl
directions_push columns (x ∷ rows) r = ap (λ t. row_direction columns x ∷ t) (directions_push columns rows r)

pub at_least_full : (n m : ℕ) → m ≡ n → 4096 ≤ n → nat_le 4096 m ≡ true
at_least_full n m e h = let l : 4096 ≤ m = omega arith in grind (arith, nat_tests)

pub below_full : (n m : ℕ) → m ≡ n → n < 4096 → nat_le 4096 m ≡ false
below_full n m e h = let l : m < 4096 = omega arith in grind (arith, nat_tests)
