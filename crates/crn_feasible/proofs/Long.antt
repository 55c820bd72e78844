-- The point of elimination has a number for each column.
use Rattle.std.proofs.Common.{◌≡◌, ℕ, zero, suc, Bool, true, false, cond, List, [], ◌∷◌, ◌++◌, length, map, Ok, Err, ap, ◌∙◌, arith}
use Rattle.std.specs.Prelude.{ℤ}
use Rattle.std.proofs.lemmas.List.{length-map, length_push}
use Rattle.crn_fraction.specs.Rational.{ℚ}
use Rattle.crn_linear.specs.Cleared.{common_den, numerator_over}
use Rattle.crn_farkas.specs.Systems.{System}
use Rattle.crn_feasible.specs.Elimination.{passes, Kept, after, take_rows, positives, negatives, without, bound, between, numerators_over, next, coordinates, started, elimination}
use Rattle.crn_feasible.proofs.Taking.{after-ok}

-- the coordinates with the next one
pub next_is : (b : Bool) (all ys : List ℚ) → cond b (Ok all) (Err passes) ≡ Ok ys → ys ≡ all
next_is true all ys h = cc
next_is false all ys h = cc

-- one for each column
pub coordinates-long : (v : ℕ) (rows : List Kept) (ys : List ℚ) → coordinates v rows ≡ Ok ys → length ys ≡ v
coordinates-long zero rows ys h = let e : ys ≡ [] = cc in ap length e
coordinates-long (suc v) rows ys h =
    let s = after-ok (take_rows [] (without v rows)) (λ rest. after (coordinates v rest) (next v rows)) ys h in
    let t = after-ok (coordinates v s.0) (next v rows) ys s.2 in
    let xs = t.0 in
    let x : ℚ = between (map (bound v xs) (positives v rows)) (map (bound v xs) (negatives v rows)) in
    let e : ys ≡ xs ++ x ∷ [] = next_is _ (xs ++ x ∷ []) ys t.2 in
    let before = coordinates-long v s.0 xs t.1 in
    omega (arith, ap (length {A = ℚ}) e, length_push xs x, before)

pub elimination-long : (s : System) (p : List ℤ) → elimination s ≡ Ok p → length p ≡ s.columns
elimination-long s p h =
    let one = after-ok (take_rows [] (started 0 s.rows)) (λ rows. after (coordinates s.columns rows) (λ xs. Ok (numerators_over (common_den xs) xs))) p h in
    let two = after-ok (coordinates s.columns one.0) (λ xs. Ok (numerators_over (common_den xs) xs)) p one.2 in
    let qs = two.0 in
    let e : p ≡ numerators_over (common_den qs) qs = let f = two.2 in cc in
    ap length e ∙ length-map qs (numerator_over (common_den qs)) ∙ coordinates-long s.columns one.0 qs two.1
