-- How many rows a list keeps.
use Rattle.std.proofs.Common.{◌≡◌, ◌⊎◌, ⊎_elim, ℕ, zero, suc, ◌+◌, ◌*◌, ◌-◌, ◌<◌, ◌≤◌, Bool, true, false, cond, not, List, [], ◌∷◌, ◌++◌, length, map, Result, Ok, Err, refl, sym, ap, ◌∙◌, arith, length-append}
use Rattle.std.specs.Prelude.{ℤ, pos, int_lt, nat_le}
use Rattle.std.specs.List.{list_all, list_any, flat_map}
use Rattle.std.specs.Ordering.{int_eq}
use Rattle.std.proofs.Math.Nat.{mul-le-mul_left}
use Rattle.std.proofs.lemmas.Bool.Decides.{nat_tests, Decides-int_eq}
use Rattle.std.proofs.lemmas.Int.{ints}
use Rattle.std.proofs.lemmas.Bool.{false≢true}
use Rattle.crn_feasible.specs.Elimination.{Stop, refuted, passes, too_many, Kept, fits, reduced, is_zero, same_direction, entry, zeros, positives, negatives, combined, take_row, take_rows, without}
use Rattle.crn_feasible.proofs.Taking.{after-ok, after-err}

pub full_by : (f z s d m : Bool) (rows : List Kept) (r : Kept)
    → cond (not f) (Err passes) (cond z (cond s (Err (refuted r.multipliers)) (Ok rows)) (cond d (Ok rows) (cond m (Err too_many) (Ok (rows ++ r ∷ []))))) ≡ Err too_many → m ≡ true
full_by false z s d m rows r h = cc
full_by true true true d m rows r h = cc
full_by true true false d m rows r h = cc
full_by true false s true m rows r h = cc
full_by true false s false true rows r h = refl
full_by true false s false false rows r h = cc

length_by : (f z s d m : Bool) (rows : List Kept) (r : Kept) (out : List Kept)
    → cond (not f) (Err passes) (cond z (cond s (Err (refuted r.multipliers)) (Ok rows)) (cond d (Ok rows) (cond m (Err too_many) (Ok (rows ++ r ∷ []))))) ≡ Ok out → length out ≤ suc (length rows)
length_by false z s d m rows r out h = absurd (none h)
  where
    none : ◌≡◌ {A = Result (List Kept) Stop} (Err passes) (Ok out) → ⊥
    none e = cc
length_by true true true d m rows r out h = absurd (none h)
  where
    none : ◌≡◌ {A = Result (List Kept) Stop} (Err (refuted r.multipliers)) (Ok out) → ⊥
    none e = cc
length_by true true false d m rows r out h = let e : out ≡ rows = cc in omega (arith, ap length e)
length_by true false s true m rows r out h = let e : out ≡ rows = cc in omega (arith, ap length e)
length_by true false s false true rows r out h = absurd (none h)
  where
    none : ◌≡◌ {A = Result (List Kept) Stop} (Err too_many) (Ok out) → ⊥
    none e = cc
length_by true false s false false rows r out h =
    let e : out ≡ rows ++ r ∷ [] = cc in omega (arith, ap length e, length-append rows (r ∷ []))

pub at_least : (n : ℕ) → nat_le 4096 n ≡ true → 4096 ≤ n
at_least n h = grind (arith, nat_tests)

pub row_length : (rows : List Kept) (k : Kept) (out : List Kept) → take_row rows k ≡ Ok out → length out ≤ suc (length rows)
row_length rows k out h = length_by (list_all fits ((reduced k).row.entries ++ (reduced k).multipliers)) (is_zero (reduced k)) (reduced k).row.strict (list_any (same_direction (reduced k)) rows) (nat_le 4096 (length rows)) rows (reduced k) out h

pub none_full : (rows : List Kept) → ◌≡◌ {A = Result (List Kept) Stop} (Ok rows) (Err too_many) → ⊥
none_full rows h = cc

-- a list that is kept too long was made of more than 4,096 rows
pub rows_full : (rows ks : List Kept) → take_rows rows ks ≡ Err too_many → 4096 < length rows + length ks
rows_full rows [] h = absurd (none_full rows h)
rows_full rows (k ∷ ks) h =
    ⊎_elim
    (λ (e : take_row rows k ≡ Err too_many).
    let l : 4096 ≤ length rows = at_least (length rows) (full_by (list_all fits ((reduced k).row.entries ++ (reduced k).multipliers)) (is_zero (reduced k)) (reduced k).row.strict (list_any (same_direction (reduced k)) rows) (nat_le 4096 (length rows)) rows (reduced k) e) in omega arith)
    (λ (t : (more : List Kept) × (take_row rows k ≡ Ok more) × (take_rows more ks ≡ Err too_many)).
    let l = rows_full t.0 ks t.2 in
    let g = row_length rows k t.0 t.1 in
    omega arith)
    (after-err (take_row rows k) (λ more. take_rows more ks) too_many h)

pub kept_length : (rows ks out : List Kept) → take_rows rows ks ≡ Ok out → length out ≤ length rows + length ks
kept_length rows [] out h = let e : out ≡ rows = cc in omega (arith, ap length e)
kept_length rows (k ∷ ks) out h =
    let s = after-ok (take_row rows k) (λ more. take_rows more ks) out h in
    let l = kept_length s.0 ks out s.2 in
    let g = row_length rows k s.0 s.1 in
    omega arith

-- ---- how many rows are taken where a column is eliminated
length-map' : (f : Kept → Kept) (xs : List Kept) → length (map f xs) ≡ length xs
length-map' f [] = refl
length-map' f (x ∷ xs) = ap suc (length-map' f xs)

length-combos : (v : ℕ) (ps ns : List Kept) → length (flat_map (λ p. map (combined v p) ns) ps) ≡ length ps * length ns
length-combos v [] ns = omega arith
length-combos v (p ∷ ps) ns =
    let e = length-combos v ps ns in
    omega (arith, e, length-append (map (combined v p) ns) (flat_map (λ p. map (combined v p) ns) ps), length-map' (combined v p) ns)

pub length-without : (v : ℕ) (rows : List Kept) → length (without v rows) ≡ length (zeros v rows) + length (positives v rows) * length (negatives v rows)
length-without v rows =
    length-append (zeros v rows) (flat_map (λ p. map (combined v p) (negatives v rows)) (positives v rows))
    ∙ ap (λ n. length (zeros v rows) + n) (length-combos v (positives v rows) (negatives v rows))

one_of_three : (k : Kept) (v : ℕ) (zs ps ns : List Kept) (n : ℕ) → length zs + length ps + length ns ≡ n
    → (z p m : Bool) → z ≡ int_eq (entry v k) (pos 0) → p ≡ int_lt (pos 0) (entry v k) → m ≡ int_lt (entry v k) (pos 0)
    → length (cond z (k ∷ zs) zs) + length (cond p (k ∷ ps) ps) + length (cond m (k ∷ ns) ns) ≡ suc n
one_of_three k v zs ps ns n h true true m e f g = absurd (both (entry v k) (sym e) f)
  where
    both : (x : ℤ) → int_eq x (pos 0) ≡ true → true ≡ int_lt (pos 0) x → ⊥
    both x a b = let c = (Decides-int_eq x (pos 0)).0 a in omega (arith, ints)
one_of_three k v zs ps ns n h true false true e f g = absurd (both (entry v k) (sym e) g)
  where
    both : (x : ℤ) → int_eq x (pos 0) ≡ true → true ≡ int_lt x (pos 0) → ⊥
    both x a b = let c = (Decides-int_eq x (pos 0)).0 a in omega (arith, ints)
one_of_three k v zs ps ns n h true false false e f g = omega (arith, h)
one_of_three k v zs ps ns n h false true true e f g = absurd (both (entry v k) f g)
  where
    both : (x : ℤ) → true ≡ int_lt (pos 0) x → true ≡ int_lt x (pos 0) → ⊥
    both x a b = omega (arith, ints)
one_of_three k v zs ps ns n h false true false e f g = omega (arith, h)
one_of_three k v zs ps ns n h false false true e f g = omega (arith, h)
one_of_three k v zs ps ns n h false false false e f g = absurd (neither (entry v k) e f g)
  where
    neither : (x : ℤ) → false ≡ int_eq x (pos 0) → false ≡ int_lt (pos 0) x → false ≡ int_lt x (pos 0) → ⊥
    neither x a b d = let c : x ≡ pos 0 = omega (arith, ints) in false≢true (a ∙ (Decides-int_eq x (pos 0)).1 c)

pub three_parts : (v : ℕ) (rows : List Kept) → length (zeros v rows) + length (positives v rows) + length (negatives v rows) ≡ length rows
three_parts v [] = refl
three_parts v (k ∷ rows) =
    one_of_three k v (zeros v rows) (positives v rows) (negatives v rows) (length rows) (three_parts v rows)
    (int_eq (entry v k) (pos 0)) (int_lt (pos 0) (entry v k)) (int_lt (entry v k) (pos 0)) refl refl refl

-- ---- at most 64 times 64
half_square : (p n d : ℕ) → p + d ≡ 64 → n ≤ 64 + d → p * n ≤ 4096
half_square p n d h l =
    let a = mul-le-mul_left p l in
    let b = ap (λ t. t * d) h in
    let c = ap (λ t. t * 64) h in
    omega (arith, a, b, c)

product_most : (p n : ℕ) → p + n ≤ 128 → p * n ≤ 4096
product_most p n h =
    ⊎_elim (λ (l : p ≤ 64). half_square p n (64 - p) (omega arith) (omega arith))
    (λ (l : 64 ≤ p). let r = half_square n p (64 - n) (omega arith) (omega arith) in omega (arith, r)) (split p)
  where
    split : (p : ℕ) → (p ≤ 64) ⊎ (64 ≤ p)
    split p = grind arith

with_zeros : (z p n : ℕ) → z + p + n ≤ 128 → z + p * n ≤ 4096
with_zeros z p zero h = omega arith
with_zeros z p (suc n) h =
    let l = product_most (z + p) (suc n) (omega arith) in
    let g : z ≤ z * suc n = grind arith in
    omega (arith, l, g)

-- the first elimination from at most 128 rows keeps at most 4,096
pub without_most : (v : ℕ) (rows : List Kept) → length rows ≤ 128 → length (without v rows) ≤ 4096
without_most v rows h =
    let e = length-without v rows in
    let t = three_parts v rows in
    let l = with_zeros (length (zeros v rows)) (length (positives v rows)) (length (negatives v rows)) (omega (arith, t)) in
    omega (arith, e, l)

pub first_not_full : (v : ℕ) (rows : List Kept) → length rows ≤ 128 → take_rows [] (without v rows) ≡ Err too_many → ⊥
first_not_full v rows h e = let l = rows_full [] (without v rows) e in let m = without_most v rows h in omega arith
