-- With at most 128 rows and 3 columns no list keeps more than 4,096 rows.
use Rattle.std.proofs.Common.{◌≡◌, ◌⊎◌, ⊎_elim, inl, inr, ℕ, zero, suc, ◌+◌, ◌<◌, ◌≤◌, Bool, true, false, cond, not, List, [], ◌∷◌, ◌++◌, length, Result, Ok, Err, refl, sym, ◌∙◌, subst, arith}
use Rattle.std.specs.Prelude.{ℤ, nat_le}
use Rattle.std.specs.List.{list_all, list_any}
use Rattle.crn_fraction.specs.Rational.{ℚ}
use Rattle.crn_linear.specs.Rows.{Row}
use Rattle.crn_farkas.specs.Systems.{System}
use Rattle.crn_feasible.specs.Elimination.{Stop, refuted, passes, too_many, Kept, after, fits, reduced, is_zero, same_direction, take_row, take_rows, without, next, coordinates, started, elimination, numerators_over, combined}
use Rattle.crn_linear.specs.Cleared.{common_den}
use Rattle.crn_feasible.proofs.Orders.{Each, Each-weaker}
use Rattle.crn_feasible.proofs.Taking.{NonZero, after-ok, after-err, row_kept, rows_kept}
use Rattle.crn_feasible.proofs.Points.{ZeroFrom, zero_reduced, zero_zeros, zero_combined, past, Each-without, HasFullRows}
use Rattle.crn_feasible.proofs.Certificates.{length-mixed}
use Rattle.crn_linear.proofs.Commons.{length-over}
use Rattle.crn_feasible.proofs.Counts.{full_by, at_least, none_full, rows_full, kept_length, first_not_full}
use Rattle.crn_feasible.proofs.Distinct.{Distinct, Distinct-push, IsSingle, at_most_four}
use Rattle.crn_feasible.proofs.Parts.{length-started}

appended_by : (f z s d m : Bool) (rows : List Kept) (r : Kept) (out : List Kept)
    → cond (not f) (Err passes) (cond z (cond s (Err (refuted r.multipliers)) (Ok rows)) (cond d (Ok rows) (cond m (Err too_many) (Ok (rows ++ r ∷ []))))) ≡ Ok out
    → (out ≡ rows) ⊎ ((d ≡ false) × (out ≡ rows ++ r ∷ []))
appended_by false z s d m rows r out h = cc
appended_by true true true d m rows r out h = cc
appended_by true true false d m rows r out h = inl (cc)
appended_by true false s true m rows r out h = inl (cc)
appended_by true false s false true rows r out h = cc
appended_by true false s false false rows r out h = inr (refl, cc)

distinct_row : (rows : List Kept) (k : Kept) (out : List Kept) → take_row rows k ≡ Ok out → Distinct rows → Distinct out
distinct_row rows k out h d =
    let r = reduced k in
    ⊎_elim (λ (e : out ≡ rows). subst Distinct (sym e) d)
    (λ (e : (list_any (same_direction r) rows ≡ false) × (out ≡ rows ++ r ∷ [])). subst Distinct (sym e.1) (Distinct-push rows r e.0 d))
    (appended_by (list_all fits (r.row.entries ++ r.multipliers)) (is_zero r) r.row.strict (list_any (same_direction r) rows) (nat_le 4096 (length rows)) rows r out h)

distinct_rows : (rows ks out : List Kept) → take_rows rows ks ≡ Ok out → Distinct rows → Distinct out
distinct_rows rows [] out h d = subst Distinct (cc) d
distinct_rows rows (k ∷ ks) out h d =
    let s = after-ok (take_row rows k) (λ more. take_rows more ks) out h in
    distinct_rows s.0 ks out s.2 (distinct_row rows k s.0 s.1 d)

-- no entry from column v on, and n entries
pub record IsPart (v n : ℕ) (k : Kept) : Type 0 where
  pub zeros : ZeroFrom v k
  pub long : length k.row.entries ≡ n

part_reduced : (v n : ℕ) (k : Kept) → IsPart v n k → IsPart v n (reduced k)
unfolding reduced
part_reduced v n k h = record { zeros = zero_reduced v k h.zeros; long = length-over _ k.row.entries ∙ h.long }

part_combined : (v n : ℕ) (p q : Kept) → IsPart (suc v) n p → IsPart (suc v) n q → IsPart v n (combined v p q)
unfolding combined
part_combined v n p q hp hq = record {
  zeros = zero_combined v p q hp.zeros hq.zeros;
  long = length-mixed _ p.row.entries _ q.row.entries n hp.long hq.long;
}

part_without : (v n : ℕ) (rows : List Kept) → Each (IsPart (suc v) n) rows → Each (IsPart v n) (without v rows)
part_without v n rows h =
    Each-without (IsPart (suc v) n) (IsPart v n) v rows (λ k e p. record { zeros = zero_zeros v k e p.zeros; long = p.long }) (λ p q hp hq a b. part_combined v n p q a b) h

kept_parts : (v n : ℕ) (ks out : List Kept) → take_rows [] ks ≡ Ok out → Each (IsPart v n) ks → Each (IsPart v n) out
kept_parts v n ks out h p =
    rows_kept (IsPart v n) [] ks out h (Each-weaker (IsPart v n) (λ k. is_zero (reduced k) ≡ false → IsPart v n (reduced k)) (λ k q z. part_reduced v n k q) ks p) tt

single_reduced : (n : ℕ) (k : Kept) → IsPart 1 n k → is_zero (reduced k) ≡ false → IsSingle n (reduced k)
unfolding NonZero
single_reduced n k h z = let p = part_reduced 1 n k h in record { nonzero = z; single = p.zeros; long = p.long }

singles : (n : ℕ) (ks : List Kept) → Each (IsPart 1 n) ks → Each (λ k. is_zero (reduced k) ≡ false → IsSingle n (reduced k)) ks
singles n ks h = Each-weaker (IsPart 1 n) (λ k. is_zero (reduced k) ≡ false → IsSingle n (reduced k)) (λ k p z. single_reduced n k p z) ks h

-- rows with one column never fill a list
single_not_full : (n : ℕ) (rows ks : List Kept) → Each (IsSingle n) rows → Distinct rows → Each (IsPart 1 n) ks → take_rows rows ks ≡ Err too_many → ⊥
single_not_full n rows [] s d p h = none_full rows h
single_not_full n rows (k ∷ ks) s d p h =
    let r = reduced k in
    ⊎_elim
    (λ (e : take_row rows k ≡ Err too_many).
    let l : 4096 ≤ length rows = at_least (length rows) (full_by (list_all fits (r.row.entries ++ r.multipliers)) (is_zero r) r.row.strict (list_any (same_direction r) rows) (nat_le 4096 (length rows)) rows r e) in
    let m : length rows ≤ 4 = at_most_four n rows s d in
    none l m)
    (λ (t : (more : List Kept) × (take_row rows k ≡ Ok more) × (take_rows more ks ≡ Err too_many)).
    single_not_full n t.0 ks (row_kept (IsSingle n) rows k t.0 t.1 (single_reduced n k p.0) s) (distinct_row rows k t.0 t.1 d) p.1 t.2)
    (after-err (take_row rows k) (λ more. take_rows more ks) too_many h)
  where
    none : {m : ℕ} → 4096 ≤ m → m ≤ 4 → ⊥
    none a b = omega arith

next_not_full : (t : Bool) (all : List ℚ) → cond t (Ok all) (Err passes) ≡ Err too_many → ⊥
next_not_full true all h = cc
next_not_full false all h = cc

-- one column: either its rows fill a list, or the rest does
column_full : (v : ℕ) (rows : List Kept) → coordinates (suc v) rows ≡ Err too_many
    → (take_rows [] (without v rows) ≡ Err too_many) ⊎ ((rest : List Kept) × (take_rows [] (without v rows) ≡ Ok rest) × (coordinates v rest ≡ Err too_many))
column_full v rows h =
    ⊎_elim (λ (e : take_rows [] (without v rows) ≡ Err too_many). inl e)
    (λ (t : (rest : List Kept) × (take_rows [] (without v rows) ≡ Ok rest) × (after (coordinates v rest) (next v rows) ≡ Err too_many)).
    ⊎_elim (λ (e : coordinates v t.0 ≡ Err too_many). inr (t.0, t.1, e))
    (λ (u : (xs : List ℚ) × (coordinates v t.0 ≡ Ok xs) × (next v rows xs ≡ Err too_many)). absurd (next_not_full _ _ u.2))
    (after-err (coordinates v t.0) (next v rows) too_many t.2))
    (after-err (take_rows [] (without v rows)) (λ rest. after (coordinates v rest) (next v rows)) too_many h)

none_left : ◌≡◌ {A = Result (List ℚ) Stop} (Ok []) (Err too_many) → ⊥
none_left h = cc

one_column : (rows : List Kept) → length rows ≤ 128 → coordinates 1 rows ≡ Err too_many → ⊥
one_column rows l h =
    ⊎_elim (λ e. first_not_full 0 rows l e)
    (λ (t : (rest : List Kept) × (take_rows [] (without 0 rows) ≡ Ok rest) × (coordinates 0 rest ≡ Err too_many)). none_left t.2)
    (column_full 0 rows h)

two_columns : (n : ℕ) (rows : List Kept) → Each (IsPart 2 n) rows → coordinates 2 rows ≡ Err too_many → ⊥
two_columns n rows p h =
    let parts = part_without 1 n rows p in
    ⊎_elim (λ e. single_not_full n [] (without 1 rows) tt tt parts e)
    (λ (t : (rest : List Kept) × (take_rows [] (without 1 rows) ≡ Ok rest) × (coordinates 1 rest ≡ Err too_many)).
    let s : Each (IsSingle n) t.0 = rows_kept (IsSingle n) [] (without 1 rows) t.0 t.1 (singles n (without 1 rows) parts) tt in
    let l = at_most_four n t.0 s (distinct_rows [] (without 1 rows) t.0 t.1 tt) in
    one_column t.0 (omega arith) t.2)
    (column_full 1 rows h)

three_columns : (n : ℕ) (rows : List Kept) → length rows ≤ 128 → Each (IsPart 3 n) rows → coordinates 3 rows ≡ Err too_many → ⊥
three_columns n rows l p h =
    ⊎_elim (λ e. first_not_full 2 rows l e)
    (λ (t : (rest : List Kept) × (take_rows [] (without 2 rows) ≡ Ok rest) × (coordinates 2 rest ≡ Err too_many)).
    two_columns n t.0 (kept_parts 2 n (without 2 rows) t.0 t.1 (part_without 2 n rows p)) t.2)
    (column_full 2 rows h)

started_parts : (n i : ℕ) (rows : List Row) → Each (λ r. length r.entries ≡ n) rows → Each (IsPart n n) (started i rows)
started_parts n i [] h = tt
started_parts n i (r ∷ rows) h = (record { zeros = past n _ h.0; long = h.0 }, started_parts n (suc i) rows h.1)

by_columns : (n : ℕ) (rows : List Kept) → n ≤ 3 → length rows ≤ 128 → Each (IsPart n n) rows → coordinates n rows ≡ Err too_many → ⊥
by_columns zero rows l m p h = none_left h
by_columns (suc zero) rows l m p h = one_column rows m h
by_columns (suc (suc zero)) rows l m p h = two_columns 2 rows p h
by_columns (suc (suc (suc zero))) rows l m p h = three_columns 3 rows m p h
by_columns (suc (suc (suc (suc n)))) rows l m p h = omega arith

no_point_full : (xs : List ℚ) → ◌≡◌ {A = Result (List ℤ) Stop} (Ok (numerators_over (common_den xs) xs)) (Err too_many) → ⊥
no_point_full xs h = cc

pub few_rows : (s : System) → HasFullRows s → s.columns ≤ 3 → length s.rows ≤ 128 → elimination s ≡ Err too_many → ⊥
unfolding HasFullRows
few_rows s sys c l h =
    let ks = started 0 s.rows in
    ⊎_elim (λ (e : take_rows [] ks ≡ Err too_many). let f = rows_full [] ks e in let g = length-started 0 s.rows in below (length ks) (length s.rows) g l f)
    (λ (t : (rows : List Kept) × (take_rows [] ks ≡ Ok rows) × (after (coordinates s.columns rows) (λ xs. Ok (numerators_over (common_den xs) xs)) ≡ Err too_many)).
    let len = kept_length [] ks t.0 t.1 in
    let g = length-started 0 s.rows in
    ⊎_elim
    (λ (e : coordinates s.columns t.0 ≡ Err too_many).
    by_columns s.columns t.0 c (omega (arith, len, g)) (kept_parts s.columns s.columns ks t.0 t.1 (started_parts s.columns 0 s.rows sys)) e)
    (λ (u : (xs : List ℚ) × (coordinates s.columns t.0 ≡ Ok xs) × (◌≡◌ {A = Result (List ℤ) Stop} (Ok (numerators_over (common_den xs) xs)) (Err too_many))). no_point_full u.0 u.2)
    (after-err (coordinates s.columns t.0) (λ xs. Ok (numerators_over (common_den xs) xs)) too_many t.2))
    (after-err (take_rows [] ks) (λ rows. after (coordinates s.columns rows) (λ xs. Ok (numerators_over (common_den xs) xs))) too_many h)
  where
    below : (a b : ℕ) → a ≡ b → b ≤ 128 → 4096 < 0 + a → ⊥
    below a b e l h = omega arith
