-- The certificates of elimination have small multipliers.
use Rattle.std.proofs.Common.{◌≡◌, ⊎_elim, ℕ, zero, suc, Bool, true, false, cond, not, List, [], ◌∷◌, ◌++◌, Result, Ok, Err, refl, sym, subst}
use Rattle.std.specs.Prelude.{ℤ, unsigned_abs, ◌^◌}
use Rattle.std.specs.List.{list_all}
use Rattle.std.proofs.lemmas.Bool.{and_parts, leb-true}
use Rattle.std.proofs.lemmas.List.Elements.{All-nil, All-cons}
use Rattle.crn_fraction.specs.Rational.{ℚ}
use Rattle.crn_linear.specs.Rows.{IsSmall, AreSmall}
use Rattle.crn_linear.specs.Cleared.{common_den}
use Rattle.crn_farkas.specs.Systems.{System}
use Rattle.crn_feasible.specs.Elimination.{Stop, refuted, passes, too_many, Kept, after, fits, reduced, take_row, take_rows, without, numerators_over, next, coordinates, started, elimination}
use Rattle.crn_feasible.proofs.Taking.{after-err}

all_small : (xs ys : List ℤ) → list_all fits (xs ++ ys) ≡ true → AreSmall ys
all_small [] [] h = All-nil IsSmall
all_small [] (y ∷ ys) h =
    let p = and_parts (fits y) (list_all fits ys) h in
    All-cons IsSmall y ys (record { size = leb-true (unsigned_abs y) (2 ^ 59) p.0 }) (all_small [] ys p.1)
all_small (x ∷ xs) ys h = all_small xs ys (and_parts (fits x) (list_all fits (xs ++ ys)) h).1

-- a row that refutes has multipliers that fit
fit_refuted : (f z s d m : Bool) (rows : List Kept) (r : Kept) (c : List ℤ)
    → cond (not f) (Err passes) (cond z (cond s (Err (refuted r.multipliers)) (Ok rows)) (cond d (Ok rows) (cond m (Err too_many) (Ok (rows ++ r ∷ []))))) ≡ Err (refuted c)
    → (f ≡ true) × (c ≡ r.multipliers)
fit_refuted false z s d m rows r c h = cc
fit_refuted true true true d m rows r c h = (refl, cc)
fit_refuted true true false d m rows r c h = cc
fit_refuted true false s true m rows r c h = cc
fit_refuted true false s false true rows r c h = cc
fit_refuted true false s false false rows r c h = cc

row_small : (rows : List Kept) (k : Kept) (c : List ℤ) → take_row rows k ≡ Err (refuted c) → AreSmall c
row_small rows k c h =
    let p = fit_refuted _ _ _ _ _ rows (reduced k) c h in
    subst AreSmall (sym p.1) (all_small (reduced k).row.entries (reduced k).multipliers p.0)

rows_small : (rows ks : List Kept) (c : List ℤ) → take_rows rows ks ≡ Err (refuted c) → AreSmall c
rows_small rows [] c h = absurd (differ rows c h)
  where
    differ : (rows : List Kept) (c : List ℤ) → ◌≡◌ {A = Result (List Kept) Stop} (Ok rows) (Err (refuted c)) → ⊥
    differ rows c e = cc
rows_small rows (k ∷ ks) c h =
    ⊎_elim (λ (e : take_row rows k ≡ Err (refuted c)). row_small rows k c e)
    (λ (t : (more : List Kept) × (take_row rows k ≡ Ok more) × (take_rows more ks ≡ Err (refuted c))). rows_small t.0 ks c t.2)
    (after-err (take_row rows k) (λ more. take_rows more ks) (refuted c) h)

no_refusal : (t : Bool) (all : List ℚ) (c : List ℤ) → cond t (Ok all) (Err passes) ≡ Err (refuted c) → ⊥
no_refusal true all c h = cc
no_refusal false all c h = cc

coordinates_small : (v : ℕ) (ks : List Kept) (c : List ℤ) → coordinates v ks ≡ Err (refuted c) → AreSmall c
coordinates_small zero ks c h = absurd (differ c h)
  where
    differ : (c : List ℤ) → ◌≡◌ {A = Result (List ℚ) Stop} (Ok []) (Err (refuted c)) → ⊥
    differ c e = cc
coordinates_small (suc v) ks c h =
    ⊎_elim (λ (e : take_rows [] (without v ks) ≡ Err (refuted c)). rows_small [] (without v ks) c e)
    (λ (t : (rest : List Kept) × (take_rows [] (without v ks) ≡ Ok rest) × (after (coordinates v rest) (next v ks) ≡ Err (refuted c))).
    ⊎_elim
    (λ (e : coordinates v t.0 ≡ Err (refuted c)). coordinates_small v t.0 c e)
    (λ (u : (xs : List ℚ) × (coordinates v t.0 ≡ Ok xs) × (next v ks xs ≡ Err (refuted c))). absurd (no_refusal _ _ c u.2))
    (after-err (coordinates v t.0) (next v ks) (refuted c) t.2))
    (after-err (take_rows [] (without v ks)) (λ rest. after (coordinates v rest) (next v ks)) (refuted c) h)

pub elimination_small : (s : System) (c : List ℤ) → elimination s ≡ Err (refuted c) → AreSmall c
elimination_small s c h =
    let ks = started 0 s.rows in
    ⊎_elim (λ (e : take_rows [] ks ≡ Err (refuted c)). rows_small [] ks c e)
    (λ (t : (rows : List Kept) × (take_rows [] ks ≡ Ok rows) × (after (coordinates s.columns rows) (λ xs. Ok (numerators_over (common_den xs) xs)) ≡ Err (refuted c))).
    ⊎_elim
    (λ (e : coordinates s.columns t.0 ≡ Err (refuted c)). coordinates_small s.columns t.0 c e)
    (λ (u : (xs : List ℚ) × (coordinates s.columns t.0 ≡ Ok xs) × (◌≡◌ {A = Result (List ℤ) Stop} (Ok (numerators_over (common_den xs) xs)) (Err (refuted c)))). absurd (differ _ c u.2))
    (after-err (coordinates s.columns t.0) (λ xs. Ok (numerators_over (common_den xs) xs)) (refuted c) t.2))
    (after-err (take_rows [] ks) (λ rows. after (coordinates s.columns rows) (λ xs. Ok (numerators_over (common_den xs) xs))) (refuted c) h)
  where
    differ : (p c : List ℤ) → ◌≡◌ {A = Result (List ℤ) Stop} (Ok p) (Err (refuted c)) → ⊥
    differ p c e = cc
