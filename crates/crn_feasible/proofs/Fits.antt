-- With 2 columns and entries of at most m in size no number passes 8 m^4.
use Rattle.std.proofs.Common.{◌≡◌, ⊎_elim, ℕ, zero, suc, ◌+◌, ◌*◌, ◌<◌, ◌≤◌, ◌^◌, true, List, [], ◌∷◌, ◌++◌, length, map, Result, Ok, Err, refl, sym, ap, ◌∙◌, subst, arith, length-append}
use Rattle.std.specs.List.{All}
use Rattle.std.proofs.Math.Nat.{pow-suc, pow-zero}
use Rattle.std.proofs.lemmas.List.Elements.{All-head, All-tail}
use Rattle.std.specs.Prelude.{ℤ, pos, int_lt, unsigned_abs, ◌*ℤ◌, replicate}
use Rattle.std.proofs.lemmas.Int.{ints}
use Rattle.crn_fraction.specs.Rational.{ℚ}
use Rattle.crn_fraction.proofs.Core.{ratio_same}
use Rattle.crn_fraction.proofs.Ratios.{times_pos}
use Rattle.crn_linear.specs.Rows.{Row, value}
use Rattle.crn_farkas.specs.Systems.{System}
use Rattle.crn_feasible.specs.Elimination.{Stop, passes, Kept, after, take_rows, entry, positives, negatives, without, bound, between, next, coordinates, unit, started, elimination, numerators_over}
use Rattle.crn_linear.specs.Cleared.{common_den}
use Rattle.crn_feasible.proofs.Orders.{Each, Each-weaker}
use Rattle.crn_feasible.proofs.Between.{Each-both, Each-map}
use Rattle.crn_feasible.proofs.Taking.{after-ok, after-err}
use Rattle.crn_feasible.proofs.Columns.{Each-passes, Each-filter}
use Rattle.crn_feasible.proofs.Sizes.{IsWithin, Sized, rows_within, kept_within, without_within, within_at}
use Rattle.crn_feasible.proofs.PointSizes.{IsOver, value-over_den}
use Rattle.crn_feasible.proofs.PointStep.{IsBound, bound_form}
use Rattle.crn_feasible.proofs.NextFits.{AreOver, next_over, next_passes}
use Rattle.crn_feasible.proofs.Bounds.{times_le, self_square, times_by}

nonzero_low : (z : ℤ) → int_lt (pos 0) z ≡ true → z ≡ pos 0 → ⊥
nonzero_low z h e = omega (arith, ints)

nonzero_high : (z : ℤ) → int_lt z (pos 0) ≡ true → z ≡ pos 0 → ⊥
nonzero_high z h e = omega (arith, ints)

same : (xs ys : List ℚ) → ◌≡◌ {A = Result (List ℚ) Stop} (Ok xs) (Ok ys) → xs ≡ ys
same xs ys e = cc

grows : (m : ℕ) → 1 ≤ m → 1 ≤ m * m + m * m
grows m h = grind arith

module _ (v e u d n : ℕ) (xs : List ℚ) (p : 0 < d) (o : Each (IsOver d n) xs) where
  one_bound : (k : Kept) → (entry v k ≡ pos 0 → ⊥) → Sized e u k → IsBound d (length xs * (e * n)) e (bound v xs k)
  unfolding bound
  one_bound k h s =
      bound_form (entry v k) (value k.row.entries xs) d (length xs * (e * n)) e p h (within_at e v k.row.entries s.entries)
      (value-over_den k.row.entries d n e xs p (Each-weaker (IsWithin e) (λ a. unsigned_abs a ≤ e) (λ a w. w.size) k.row.entries s.entries) o)

  low_bounds : (rows : List Kept) → Each (Sized e u) rows → Each (IsBound d (length xs * (e * n)) e) (map (bound v xs) (positives v rows))
  low_bounds rows s =
      Each-map (IsBound d (length xs * (e * n)) e) (bound v xs) (positives v rows)
      (Each-both (λ k. int_lt (pos 0) (entry v k) ≡ true) (Sized e u) (λ k. IsBound d (length xs * (e * n)) e (bound v xs k)) (λ k t z. one_bound k (nonzero_low (entry v k) t) z)
      (positives v rows) (Each-passes (λ k. int_lt (pos 0) (entry v k)) rows) (Each-filter (Sized e u) (λ k. int_lt (pos 0) (entry v k)) rows s))

  high_bounds : (rows : List Kept) → Each (Sized e u) rows → Each (IsBound d (length xs * (e * n)) e) (map (bound v xs) (negatives v rows))
  high_bounds rows s =
      Each-map (IsBound d (length xs * (e * n)) e) (bound v xs) (negatives v rows)
      (Each-both (λ k. int_lt (entry v k) (pos 0) ≡ true) (Sized e u) (λ k. IsBound d (length xs * (e * n)) e (bound v xs k)) (λ k t z. one_bound k (nonzero_high (entry v k) t) z)
      (negatives v rows) (Each-passes (λ k. int_lt (entry v k) (pos 0)) rows) (Each-filter (Sized e u) (λ k. int_lt (entry v k) (pos 0)) rows s))

-- a bound with nothing before it is 0, over 1
zero_bound : (d e : ℕ) (q : ℚ) → 0 < d → IsBound d 0 e q → IsBound 1 0 1 q
zero_bound d e q p b = record {
  top = pos 0;
  part = 1;
  positive = omega arith;
  most = omega arith;
  is = b.is ∙ ratio_same b.top (pos 0) (d * b.part) (1 * 1) (times_pos d b.part p b.positive) (omega arith) (zero_cross b.top (d * b.part) b.size);
  size = omega arith;
}
  where
    zero_cross : (t : ℤ) (m : ℕ) → unsigned_abs t ≤ 0 → t *ℤ pos (1 * 1) ≡ pos 0 *ℤ pos m
    zero_cross t m h = omega (arith, ints)

zero_bounds : (d e : ℕ) (qs : List ℚ) → 0 < d → Each (IsBound d 0 e) qs → Each (IsBound 1 0 1) qs
zero_bounds d e qs p h = Each-weaker (IsBound d 0 e) (IsBound 1 0 1) (λ q b. zero_bound d e q p b) qs h

no_pass : (xs : List ℚ) (r : Result (List ℚ) Stop) → r ≡ Ok xs → r ≡ Err passes → ⊥
no_pass xs r h k = cc

-- the coordinate of the first column
first_next : (e u : ℕ) (rows : List Kept) → Each (Sized e u) rows → (next 0 rows [] ≡ Ok (between (map (bound 0 []) (positives 0 rows)) (map (bound 0 []) (negatives 0 rows)) ∷ []))
    × AreOver 2 (between (map (bound 0 []) (positives 0 rows)) (map (bound 0 []) (negatives 0 rows)) ∷ [])
first_next e u rows s =
    let ls = map (bound 0 []) (positives 0 rows) in
    let us = map (bound 0 []) (negatives 0 rows) in
    let z : length {A = ℚ} [] * (e * 1) ≡ 0 = omega arith in
    let a = zero_bounds 1 e ls (omega arith) (subst (λ t. Each (IsBound 1 t e) ls) z (low_bounds 0 e u 1 1 [] (omega arith) tt rows s)) in
    let b = zero_bounds 1 e us (omega arith) (subst (λ t. Each (IsBound 1 t e) us) z (high_bounds 0 e u 1 1 [] (omega arith) tt rows s)) in (
      next_passes 1 1 0 1 2 [] ls us (omega arith) (omega arith) (omega arith) (omega arith) (omega arith) (omega arith) (omega arith) (omega arith) (omega arith) tt a b,
      next_over 1 1 0 1 2 [] ls us (omega arith) (omega arith) (omega arith) (omega arith) (omega arith) (omega arith) tt a b,
    )

-- ---- assembled
none_passes : (xs : List ℚ) → ◌≡◌ {A = Result (List ℚ) Stop} (Ok xs) (Err passes) → ⊥
none_passes xs h = cc

column_passes : (v : ℕ) (rows : List Kept) (e u : ℕ) → e ≤ 2 ^ 59 → u ≤ 2 ^ 59 → Each (Sized e u) (without v rows)
    → ((rest : List Kept) → Each (Sized e u) rest → coordinates v rest ≡ Err passes → ⊥)
    → ((rest : List Kept) (xs : List ℚ) → Each (Sized e u) rest → coordinates v rest ≡ Ok xs → next v rows xs ≡ Err passes → ⊥)
    → coordinates (suc v) rows ≡ Err passes → ⊥
column_passes v rows e u he hu s f g h =
    ⊎_elim (λ (q : take_rows [] (without v rows) ≡ Err passes). rows_within e u [] (without v rows) he hu s q)
    (λ (t : (rest : List Kept) × (take_rows [] (without v rows) ≡ Ok rest) × (after (coordinates v rest) (next v rows) ≡ Err passes)).
    let small : Each (Sized e u) t.0 = kept_within e u (without v rows) t.0 t.1 s in
    ⊎_elim (λ (q : coordinates v t.0 ≡ Err passes). f t.0 small q)
    (λ (w : (xs : List ℚ) × (coordinates v t.0 ≡ Ok xs) × (next v rows xs ≡ Err passes)). g t.0 w.0 small w.1 w.2)
    (after-err (coordinates v t.0) (next v rows) passes t.2))
    (after-err (take_rows [] (without v rows)) (λ rest. after (coordinates v rest) (next v rows)) passes h)

-- one column: no limit, and its coordinate is over a denominator of at most 2
one_passes : (e u : ℕ) (rows : List Kept) → 1 ≤ e → e * e + e * e ≤ 2 ^ 59 → e * u + e * u ≤ 2 ^ 59 → Each (Sized e u) rows → coordinates 1 rows ≡ Err passes → ⊥
one_passes e u rows p he hu s h =
    column_passes 0 rows (e * e + e * e) (e * u + e * u) he hu (without_within e u 0 rows p s)
    (λ rest small q. none_passes [] q)
    (λ rest xs small o q.
    let k : xs ≡ [] = nothing xs o in
    no_pass _ (next 0 rows []) (first_next e u rows s).0 (subst (λ (t : List ℚ). next 0 rows t ≡ Err passes) k q)) h
  where
    nothing : (xs : List ℚ) → ◌≡◌ {A = Result (List ℚ) Stop} (Ok []) (Ok xs) → xs ≡ []
    nothing xs e = cc

one_over : (e u : ℕ) (rows : List Kept) (xs : List ℚ) → Each (Sized e u) rows → coordinates 1 rows ≡ Ok xs → AreOver 2 xs × (length xs ≡ 1)
one_over e u rows xs s h =
    let t = after-ok (take_rows [] (without 0 rows)) (λ rest. after (coordinates 0 rest) (next 0 rows)) xs h in
    let f = first_next e u rows s in
    let k : xs ≡ between (map (bound 0 []) (positives 0 rows)) (map (bound 0 []) (negatives 0 rows)) ∷ [] = same xs _ (sym t.2 ∙ f.0) in
    (subst (λ (o : List ℚ). AreOver 2 o) (sym k) f.1, ap length k)

-- two columns, where every product that comes is small
pub two_pass : (m u : ℕ) (rows : List Kept) → 1 ≤ m
    → (m * m + m * m) * (m * m + m * m) + (m * m + m * m) * (m * m + m * m) ≤ 2 ^ 59 → (m * m + m * m) * (m * u + m * u) + (m * m + m * m) * (m * u + m * u) ≤ 2 ^ 59
    → m * m + m * m ≤ 2 ^ 59 → m * u + m * u ≤ 2 ^ 59 → 4 * (m * m) ≤ 2 ^ 59
    → Each (Sized m u) rows → coordinates 2 rows ≡ Err passes → ⊥
two_pass m u rows p h2 k2 h1 k1 h0 s h =
    let e = m * m + m * m in
    let w = m * u + m * u in
    let first = without_within m u 1 rows p s in
    column_passes 1 rows e w h1 k1 first
    (λ rest small q. one_passes e w rest (grows m p) h2 k2 small q)
    (λ rest xs small o q.
    let before = one_over e w rest xs small o in
    let a = before.0 in
    let d = a.den in
    let sz : length xs * (m * 2) ≡ 2 * m = let l = before.1 in rw l (omega arith) in
    let lows = subst (λ t. Each (IsBound d t m) (map (bound 1 xs) (positives 1 rows))) sz (low_bounds 1 m u d 2 xs a.positive a.each rows s) in
    let highs = subst (λ t. Each (IsBound d t m) (map (bound 1 xs) (negatives 1 rows))) sz (high_bounds 1 m u d 2 xs a.positive a.each rows s) in
    let dm = times_by d m 2 a.most in
    let sq = self_square m p in
    no_pass _ (next 1 rows xs)
    (next_passes d 2 (2 * m) m (4 * (m * m)) xs (map (bound 1 xs) (positives 1 rows)) (map (bound 1 xs) (negatives 1 rows)) a.positive a.most p
    (omega (arith, dm, sq)) (omega arith) (omega arith) (omega (arith, sq)) (omega (arith, sq)) h0 a.each lows highs) q) h

-- ---- a system with two columns
zeros_within : (n : ℕ) → Each (IsWithin 1) (replicate n (pos 0))
zeros_within zero = tt
zeros_within (suc n) = (record { size = omega arith }, zeros_within n)

unit_within : (i n : ℕ) → Each (IsWithin 1) (unit i n)
unit_within zero n = (record { size = omega arith }, zeros_within n)
unit_within (suc i) n = (record { size = omega arith }, unit_within i n)

started_within : (m i : ℕ) (rows : List Row) → Each (λ r. Each (IsWithin m) r.entries) rows → Each (Sized m 1) (started i rows)
started_within m i [] h = tt
started_within m i (r ∷ rows) h = (record { entries = h.0; multipliers = unit_within i (length rows) }, started_within m (suc i) rows h.1)

no_point_pass : (p : List ℤ) → ◌≡◌ {A = Result (List ℤ) Stop} (Ok p) (Err passes) → ⊥
no_point_pass p h = cc

pub two_columns_pass : (s : System) (m : ℕ) → 1 ≤ m → s.columns ≡ 2 → Each (λ r. Each (IsWithin m) r.entries) s.rows → 8 * ((m * m) * (m * m)) ≤ 2 ^ 59 → elimination s ≡ Err passes → ⊥
two_columns_pass s m p two small l h =
    let ks = started 0 s.rows in
    let sized = started_within m 0 s.rows small in
    let a = self_square m p in
    let b : 1 ≤ m * m = omega (arith, a) in
    let c = self_square (m * m) b in
    let d = times_le (m * m) m (m * m) a in
    ⊎_elim (λ (q : take_rows [] ks ≡ Err passes). rows_within m 1 [] ks (omega (arith, a, c, l)) (omega arith) sized q)
    (λ (t : (rows : List Kept) × (take_rows [] ks ≡ Ok rows) × (after (coordinates s.columns rows) (λ xs. Ok (numerators_over (common_den xs) xs)) ≡ Err passes)).
    let kept : Each (Sized m 1) t.0 = kept_within m 1 ks t.0 t.1 sized in
    ⊎_elim
    (λ (q : coordinates s.columns t.0 ≡ Err passes).
    two_pass m 1 t.0 p (omega (arith, l)) (omega (arith, l, d)) (omega (arith, l, c)) (omega (arith, l, a, c)) (omega (arith, l, c)) kept (subst (λ n. coordinates n t.0 ≡ Err passes) two q))
    (λ (w : (xs : List ℚ) × (coordinates s.columns t.0 ≡ Ok xs) × (◌≡◌ {A = Result (List ℤ) Stop} (Ok (numerators_over (common_den xs) xs)) (Err passes))). no_point_pass _ w.2)
    (after-err (coordinates s.columns t.0) (λ xs. Ok (numerators_over (common_den xs) xs)) passes t.2))
    (after-err (take_rows [] ks) (λ rows. after (coordinates s.columns rows) (λ xs. Ok (numerators_over (common_den xs) xs))) passes h)

-- ---- three columns
two_over : (e u : ℕ) (rows : List Kept) (xs : List ℚ) → 1 ≤ e → 4 * (e * e) ≤ 2 ^ 59 → Each (Sized e u) rows → coordinates 2 rows ≡ Ok xs → AreOver (4 * (e * e)) xs × (length xs ≡ 2)
two_over e u rows ys p h0 s h =
    let t = after-ok (take_rows [] (without 1 rows)) (λ rest. after (coordinates 1 rest) (next 1 rows)) ys h in
    let rest = t.0 in
    let small : Each (Sized (e * e + e * e) (e * u + e * u)) rest = kept_within (e * e + e * e) (e * u + e * u) (without 1 rows) rest t.1 (without_within e u 1 rows p s) in
    let w = after-ok (coordinates 1 rest) (next 1 rows) ys t.2 in
    let xs = w.0 in
    let before = one_over (e * e + e * e) (e * u + e * u) rest xs small w.1 in
    let a = before.0 in
    let d = a.den in
    let sz : length xs * (e * 2) ≡ 2 * e = let l = before.1 in rw l (omega arith) in
    let lows = subst (λ t. Each (IsBound d t e) (map (bound 1 xs) (positives 1 rows))) sz (low_bounds 1 e u d 2 xs a.positive a.each rows s) in
    let highs = subst (λ t. Each (IsBound d t e) (map (bound 1 xs) (negatives 1 rows))) sz (high_bounds 1 e u d 2 xs a.positive a.each rows s) in
    let dm = times_by d e 2 a.most in
    let sq = self_square e p in
    let ok = next_passes d 2 (2 * e) e (4 * (e * e)) xs (map (bound 1 xs) (positives 1 rows)) (map (bound 1 xs) (negatives 1 rows)) a.positive a.most p
    (omega (arith, dm, sq)) (omega arith) (omega arith) (omega (arith, sq, h0)) (omega (arith, sq, h0)) h0 a.each lows highs in
    let ov = next_over d 2 (2 * e) e (4 * (e * e)) xs (map (bound 1 xs) (positives 1 rows)) (map (bound 1 xs) (negatives 1 rows)) a.positive a.most p
    (omega (arith, dm, sq)) (omega arith) (omega arith) a.each lows highs in
    let k : ys ≡ xs ++ between (map (bound 1 xs) (positives 1 rows)) (map (bound 1 xs) (negatives 1 rows)) ∷ [] = same ys _ (sym w.2 ∙ ok) in
    (subst (λ (o : List ℚ). AreOver (4 * (e * e)) o) (sym k) ov, ap length k ∙ length-append xs _ ∙ ap (λ n. n + 1) before.1)

three_pass : (m u N : ℕ) (rows : List Kept) → 1 ≤ m → let E = m * m + m * m in let U = m * u + m * u in
    N ≡ 4 * (E * E)
    → (E * E + E * E) * (E * E + E * E) + (E * E + E * E) * (E * E + E * E) ≤ 2 ^ 59 → (E * E + E * E) * (E * U + E * U) + (E * E + E * E) * (E * U + E * U) ≤ 2 ^ 59
    → E * E + E * E ≤ 2 ^ 59 → E * U + E * U ≤ 2 ^ 59 → E ≤ 2 ^ 59 → U ≤ 2 ^ 59 → N ≤ 2 ^ 59 → 4 * (m * (m * N)) ≤ 2 ^ 59
    → Each (Sized m u) rows → coordinates 3 rows ≡ Err passes → ⊥
three_pass m u N rows p is h3 k3 h2 k2 h1 k1 h0 hy s h =
    let e = m * m + m * m in
    let w = m * u + m * u in
    let first = without_within m u 2 rows p s in
    let pe = grows m p in
    let n0 : 4 * (e * e) ≤ 2 ^ 59 = subst (λ t. t ≤ 2 ^ 59) is h0 in
    column_passes 2 rows e w h1 k1 first
    (λ rest small q. two_pass e w rest pe h3 k3 h2 k2 n0 small q)
    (λ rest xs small o q.
    let before = two_over e w rest xs pe n0 small o in
    let a = subst (λ t. AreOver t xs) (sym is) before.0 in
    let d = a.den in
    let sz : length xs * (m * N) ≡ 2 * (m * N) = let l = before.1 in rw l refl in
    let lows = subst (λ t. Each (IsBound d t m) (map (bound 2 xs) (positives 2 rows))) sz (low_bounds 2 m u d N xs a.positive a.each rows s) in
    let highs = subst (λ t. Each (IsBound d t m) (map (bound 2 xs) (negatives 2 rows))) sz (high_bounds 2 m u d N xs a.positive a.each rows s) in
    let dm = times_by d m N a.most in
    let sq = wide m N p in
    no_pass _ (next 2 rows xs)
    (next_passes d N (2 * (m * N)) m (4 * (m * (m * N))) xs (map (bound 2 xs) (positives 2 rows)) (map (bound 2 xs) (negatives 2 rows)) a.positive a.most p
    (omega (arith, dm, sq)) (omega arith) (omega arith) (omega (arith, sq, hy)) (omega (arith, sq, hy)) hy a.each lows highs) q) h
  where
    wide : (m n : ℕ) → 1 ≤ m → m * n ≤ m * (m * n)
    wide m n h = grind arith

-- with 3 columns no number passes 128 m^8
pub three_columns_pass : (s : System) (m : ℕ) → 1 ≤ m → s.columns ≡ 3 → Each (λ r. Each (IsWithin m) r.entries) s.rows
    → 128 * (((m * m) * (m * m)) * ((m * m) * (m * m))) ≤ 2 ^ 59 → elimination s ≡ Err passes → ⊥
three_columns_pass s m p three small l h =
    let ks = started 0 s.rows in
    let sized = started_within m 0 s.rows small in
    let q = m * m in
    let r = q * q in
    let a = self_square m p in
    let b : 1 ≤ q = omega (arith, a) in
    let c = self_square q b in
    let b2 : 1 ≤ r = omega (arith, c, b) in
    let g = self_square r b2 in
    let d3 = times_le q m q a in
    let d7 = times_le (r * q) m q a in
    let d6 = times_le r q r c in
    ⊎_elim (λ (w : take_rows [] ks ≡ Err passes). rows_within m 1 [] ks (omega (arith, a, c, g, l)) (omega arith) sized w)
    (λ (t : (rows : List Kept) × (take_rows [] ks ≡ Ok rows) × (after (coordinates s.columns rows) (λ xs. Ok (numerators_over (common_den xs) xs)) ≡ Err passes)).
    let kept : Each (Sized m 1) t.0 = kept_within m 1 ks t.0 t.1 sized in
    ⊎_elim
    (λ (w : coordinates s.columns t.0 ≡ Err passes).
    three_pass m 1 (4 * ((q + q) * (q + q))) t.0 p refl (omega (arith, l)) (omega (arith, l, d7)) (omega (arith, l, g)) (omega (arith, l, g, d3)) (omega (arith, l, g, c)) (omega (arith, l, g, c, a)) (omega (arith, l, g)) (omega (arith, l, d6))
    kept (subst (λ n. coordinates n t.0 ≡ Err passes) three w))
    (λ (w : (xs : List ℚ) × (coordinates s.columns t.0 ≡ Ok xs) × (◌≡◌ {A = Result (List ℤ) Stop} (Ok (numerators_over (common_den xs) xs)) (Err passes))). no_point_pass _ w.2)
    (after-err (coordinates s.columns t.0) (λ xs. Ok (numerators_over (common_den xs) xs)) passes t.2))
    (after-err (take_rows [] ks) (λ rows. after (coordinates s.columns rows) (λ xs. Ok (numerators_over (common_den xs) xs))) passes h)

-- ---- one column
pub one_column_passes : (s : System) (m : ℕ) → 1 ≤ m → s.columns ≡ 1 → Each (λ r. Each (IsWithin m) r.entries) s.rows → 8 * ((m * m) * (m * m)) ≤ 2 ^ 59 → elimination s ≡ Err passes → ⊥
one_column_passes s m p one small l h =
    let ks = started 0 s.rows in
    let sized = started_within m 0 s.rows small in
    let a = self_square m p in
    let b : 1 ≤ m * m = omega (arith, a) in
    let c = self_square (m * m) b in
    ⊎_elim (λ (q : take_rows [] ks ≡ Err passes). rows_within m 1 [] ks (omega (arith, a, c, l)) (omega arith) sized q)
    (λ (t : (rows : List Kept) × (take_rows [] ks ≡ Ok rows) × (after (coordinates s.columns rows) (λ xs. Ok (numerators_over (common_den xs) xs)) ≡ Err passes)).
    let kept : Each (Sized m 1) t.0 = kept_within m 1 ks t.0 t.1 sized in
    ⊎_elim
    (λ (q : coordinates s.columns t.0 ≡ Err passes).
    one_passes m 1 t.0 p (omega (arith, l, c)) (omega (arith, l, a, c)) kept (subst (λ n. coordinates n t.0 ≡ Err passes) one q))
    (λ (w : (xs : List ℚ) × (coordinates s.columns t.0 ≡ Ok xs) × (◌≡◌ {A = Result (List ℤ) Stop} (Ok (numerators_over (common_den xs) xs)) (Err passes))). no_point_pass _ w.2)
    (after-err (coordinates s.columns t.0) (λ xs. Ok (numerators_over (common_den xs) xs)) passes t.2))
    (after-err (take_rows [] ks) (λ rows. after (coordinates s.columns rows) (λ xs. Ok (numerators_over (common_den xs) xs))) passes h)

-- ---- as the laws say it
pub each_within : (m : ℕ) (rows : List Row) → All (λ r. All (λ z. unsigned_abs z ≤ m) r.entries) rows → Each (λ r. Each (IsWithin m) r.entries) rows
each_within m [] h = tt
each_within m (r ∷ rows) h =
    (entries r.entries (All-head (λ (r : Row). All (λ z. unsigned_abs z ≤ m) r.entries) r rows h), each_within m rows (All-tail (λ (r : Row). All (λ z. unsigned_abs z ≤ m) r.entries) r rows h))
  where
    entries : (zs : List ℤ) → All (λ z. unsigned_abs z ≤ m) zs → Each (IsWithin m) zs
    entries [] h = tt
    entries (z ∷ zs) h = (record { size = All-head (λ z. unsigned_abs z ≤ m) z zs h }, entries zs (All-tail (λ z. unsigned_abs z ≤ m) z zs h))

square : (m : ℕ) → m ^ 2 ≡ m * m
square m = pow-suc m 1 ∙ ap (λ n. n * m) (pow-suc m 0 ∙ ap (λ n. n * m) (pow-zero m)) ∙ (let e : (1 * m) * m ≡ m * m = omega arith in e)

pub fourth : (m : ℕ) → m ^ 4 ≡ (m * m) * (m * m)
fourth m = pow-suc m 3 ∙ ap (λ n. n * m) (pow-suc m 2 ∙ ap (λ n. n * m) (square m)) ∙ omega arith

pub eighth : (m : ℕ) → m ^ 8 ≡ ((m * m) * (m * m)) * ((m * m) * (m * m))
eighth m =
    pow-suc m 7 ∙ ap (λ n. n * m) (pow-suc m 6 ∙ ap (λ n. n * m) (pow-suc m 5 ∙ ap (λ n. n * m) (pow-suc m 4 ∙ ap (λ n. n * m) (fourth m))))
    ∙ omega arith
