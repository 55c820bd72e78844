-- Elimination of the columns of a system from the last to the first, with a certificate where it is refuted
-- and a chosen point where it is not. It stops where a number passes 2^59 in size, or where a list has more
-- than 4,096 rows.
use Rattle.std.specs.Prelude.{ℕ, ◌≤◌, ◌^◌, Bool, true, cond, not, ◌&&◌, nat_le, ℤ, pos, neg_ℤ, int_lt, unsigned_abs, List, [], ◌∷◌, ◌++◌, length, map, slice_index_or, replicate, Result, Ok, Err}
use Rattle.std.specs.List.{All, fold, filter, list_any, list_all, flat_map}
use Rattle.std.specs.Ordering.{int_eq}
use Rattle.std.specs.Cmp.Lexicographic.{pointwise}
use Rattle.std.specs.Bool.{beq}
use Rattle.std.proofs.Common.{zero, suc}
use Rattle.crn_linear.specs.Cleared.{common, over, common_den, numerator_over}
use Rattle.crn_farkas.specs.Mixtures.{mixed}
use Rattle.crn_fraction.specs.Rational.{ℚ, whole, neg_ℚ, ◌+ℚ◌, ◌-ℚ◌, ◌/ℚ◌, min_ℚ, max_ℚ}
use Rattle.crn_linear.specs.Rows.{Row, value}
use Rattle.crn_farkas.specs.Systems.{System}

-- how elimination stops before it has a point
pub data Stop : Type 0 where
  refuted : List ℤ → Stop
  passes : Stop
  too_many : Stop

-- the next step, unless it stopped
abbrev pub after : {A B : Type 0} → Result A Stop → (A → Result B Stop) → Result B Stop
after (Ok a) f = f a
after (Err e) f = Err e

-- a row that was made of the rows of the system, by one multiplier for each
pub record Kept : Type 0 where
  pub row : Row
  pub multipliers : List ℤ

-- ---- one row
-- at most 2^59 in size
abbrev pub fits : ℤ → Bool
fits z = nat_le (unsigned_abs z) (2 ^ 59)

abbrev pub fits_ℚ : ℚ → Bool
fits_ℚ q = fits q.num && fits (pos q.den)

abbrev pub divisor : Kept → ℕ
divisor k = common (k.row.entries ++ k.multipliers)

unfoldable pub reduced : Kept → Kept
reduced k = record {
  row = record { entries = over (divisor k) k.row.entries; strict = k.row.strict };
  multipliers = over (divisor k) k.multipliers;
}

abbrev pub is_zero : Kept → Bool
is_zero k = list_all (λ x. int_eq x (pos 0)) k.row.entries

unfoldable pub direction : List ℤ → List ℤ
direction xs = over (common xs) xs

unfoldable pub same_direction : Kept → Kept → Bool
same_direction a b = pointwise int_eq (direction a.row.entries) (direction b.row.entries) && beq a.row.strict b.row.strict

-- ---- taking rows into a list
-- a row that was divided by its divisor is taken into a list
abbrev pub kept_with : List Kept → Kept → Result (List Kept) Stop
kept_with rows r =
    cond (not (list_all fits (r.row.entries ++ r.multipliers))) (Err passes) (
    cond (is_zero r) (cond r.row.strict (Err (refuted r.multipliers)) (Ok rows)) (
    cond (list_any (same_direction r) rows) (Ok rows) (
    cond (nat_le 4096 (length rows)) (Err too_many) (Ok (rows ++ r ∷ [])))))

abbrev pub take_row : List Kept → Kept → Result (List Kept) Stop
take_row rows k = kept_with rows (reduced k)

abbrev pub take_rows : List Kept → List Kept → Result (List Kept) Stop
take_rows rows [] = Ok rows
take_rows rows (k ∷ ks) = after (take_row rows k) (λ more. take_rows more ks)

-- ---- elimination of column v
abbrev pub entry : ℕ → Kept → ℤ
entry v k = slice_index_or k.row.entries v (pos 0)

abbrev pub zeros : ℕ → List Kept → List Kept
zeros v rows = filter (λ k. int_eq (entry v k) (pos 0)) rows

abbrev pub positives : ℕ → List Kept → List Kept
positives v rows = filter (λ k. int_lt (pos 0) (entry v k)) rows

abbrev pub negatives : ℕ → List Kept → List Kept
negatives v rows = filter (λ k. int_lt (entry v k) (pos 0)) rows

-- the multiples of p and n that add up to 0 in column v
unfoldable pub combined : ℕ → Kept → Kept → Kept
combined v p n =
    let a = neg_ℤ (entry v n) in
    let b = entry v p in
    record {
      row = record { entries = mixed a p.row.entries b n.row.entries; strict = cond p.row.strict true n.row.strict };
      multipliers = mixed a p.multipliers b n.multipliers;
    }

-- the rows that are taken where column v is eliminated, in order
abbrev pub without : ℕ → List Kept → List Kept
without v rows = zeros v rows ++ flat_map (λ p. map (combined v p) (negatives v rows)) (positives v rows)

-- ---- the point
-- what row k asks of the coordinate of column v after the coordinates xs: a lower bound where its entry is positive
unfoldable pub bound : ℕ → List ℚ → Kept → ℚ
bound v xs k = neg_ℚ (value k.row.entries xs) /ℚ whole (entry v k)

abbrev pub greatest : ℚ → List ℚ → ℚ
greatest q qs = fold max_ℚ q qs

abbrev pub least : ℚ → List ℚ → ℚ
least q qs = fold min_ℚ q qs

-- a number between the bounds: in the middle, or 1 beyond them on the open side
abbrev pub between : (lows highs : List ℚ) → ℚ
between [] [] = whole (pos 0)
between (l ∷ ls) [] = greatest l ls +ℚ whole (pos 1)
between [] (u ∷ us) = least u us -ℚ whole (pos 1)
between (l ∷ ls) (u ∷ us) = (greatest l ls +ℚ least u us) /ℚ whole (pos 2)

-- the numerators over a common denominator d
abbrev pub numerators_over : ℕ → List ℚ → List ℤ
numerators_over d qs = map (numerator_over d) qs

-- the coordinates with the next one x, which keeps the bounds
abbrev pub with_next : (lows highs xs : List ℚ) → ℚ → Result (List ℚ) Stop
with_next lows highs xs x =
    let all = xs ++ x ∷ [] in
    let d = common_den all in
    cond (list_all fits_ℚ (lows ++ highs ++ x ∷ []) && list_all fits (pos d ∷ numerators_over d all)) (Ok all) (Err passes)

abbrev pub next : ℕ → List Kept → List ℚ → Result (List ℚ) Stop
next v rows xs =
    let lows = map (bound v xs) (positives v rows) in
    let highs = map (bound v xs) (negatives v rows) in
    with_next lows highs xs (between lows highs)

-- ---- all of it
-- coordinates for the first v columns that meet rows with no entry from column v on
abbrev pub coordinates : ℕ → List Kept → Result (List ℚ) Stop
coordinates zero rows = Ok []
coordinates (suc v) rows = after (take_rows [] (without v rows)) (λ rest. after (coordinates v rest) (next v rows))

-- multiplier 1 for one row, and 0 for those before and behind it
abbrev pub unit : (before behind : ℕ) → List ℤ
unit before behind = replicate before (pos 0) ++ pos 1 ∷ replicate behind (pos 0)

abbrev pub started : ℕ → List Row → List Kept
started i [] = []
started i (r ∷ rs) = record { row = r; multipliers = unit i (length rs) } ∷ started (suc i) rs

-- the point of the system, or how the rule stops before it has one
abbrev pub elimination : System → Result (List ℤ) Stop
elimination s =
    after (take_rows [] (started 0 s.rows)) (λ rows.
    after (coordinates s.columns rows) (λ xs. Ok (numerators_over (common_den xs) xs)))

-- each entry of each row is at most m in size
abbrev pub AreWithin : ℕ → System → Type 0
AreWithin m s = All (λ r. All (λ z. unsigned_abs z ≤ m) r.entries) s.rows
