-- How large the numbers of the rows become, and that small ones pass no limit.
use Rattle.std.proofs.Common.{◌≡◌, ⊎_elim, ℕ, zero, suc, ◌+◌, ◌*◌, ◌/◌, ◌≤◌, ◌^◌, Bool, true, false, cond, not, List, [], ◌∷◌, ◌++◌, get_or, map, Result, Ok, Err, refl, arith}
use Rattle.std.specs.Prelude.{ℤ, pos, neg_ℤ, ◌+ℤ◌, ◌*ℤ◌, unsigned_abs}
use Rattle.std.specs.List.{list_all}
use Rattle.std.proofs.Math.Nat.{div-le_self}
use Rattle.std.proofs.lemmas.Int.{ints, unsigned_abs-mul}
use Rattle.std.proofs.lemmas.Bool.{both_ways, le-leb}
use Rattle.std.proofs.lemmas.Nat.{mul-le}
use Rattle.crn_fraction.specs.Rational.{unsigned_abs-int_div}
use Rattle.crn_feasible.specs.Elimination.{Stop, refuted, passes, too_many, Kept, fits, reduced, divisor, is_zero, combined, entry, take_row, take_rows, without}
use Rattle.crn_linear.specs.Cleared.{over}
use Rattle.crn_farkas.specs.Mixtures.{mixed}
use Rattle.crn_feasible.proofs.Orders.{Each, Each-weaker}
use Rattle.crn_feasible.proofs.Taking.{after-err, rows_kept}
use Rattle.crn_feasible.proofs.Points.{Each-without}
use Rattle.crn_feasible.proofs.Bounds.{abs_sum}

-- at most n in size
pub record IsWithin (n : ℕ) (z : ℤ) : Type 0 where
  pub size : unsigned_abs z ≤ n

-- entries at most e in size, and multipliers at most m
pub record Sized (e m : ℕ) (k : Kept) : Type 0 where
  pub entries : Each (IsWithin e) k.row.entries
  pub multipliers : Each (IsWithin m) k.multipliers

at_most_half : (a g : ℕ) → a / g ≤ a
at_most_half a g = div-le_self a g

over_within : (n g : ℕ) (xs : List ℤ) → Each (IsWithin n) xs → Each (IsWithin n) (over g xs)
over_within n g [] h = tt
over_within n g (x ∷ xs) h =
    let l = at_most_half (unsigned_abs x) g in
    (record { size = omega (arith, h.0.size, l, unsigned_abs-int_div x g) }, over_within n g xs h.1)

pub Sized-reduced : (e m : ℕ) (k : Kept) → Sized e m k → Sized e m (reduced k)
unfolding reduced
Sized-reduced e m k h = record {
  entries = over_within e (divisor k) k.row.entries h.entries;
  multipliers = over_within m (divisor k) k.multipliers h.multipliers;
}

-- ---- combinations

times_within : (a x : ℤ) (u n : ℕ) → unsigned_abs a ≤ u → IsWithin n x → IsWithin (u * n) (a *ℤ x)
times_within a x u n h k =
    let l = mul-le (unsigned_abs a) (unsigned_abs x) u n h k.size in
    record { size = omega (arith, l, unsigned_abs-mul a x) }

sum_within : (s t : ℤ) (n : ℕ) → IsWithin n s → IsWithin n t → IsWithin (n + n) (s +ℤ t)
sum_within s t n h k = let l = abs_sum s t in record { size = omega (arith, l, h.size, k.size) }

wider : (n : ℕ) (z : ℤ) → IsWithin n z → IsWithin (n + n) z
wider n z h = record { size = omega (arith, h.size) }

map_within : (a : ℤ) (xs : List ℤ) (u n : ℕ) → unsigned_abs a ≤ u → Each (IsWithin n) xs → Each (IsWithin (u * n + u * n)) (map (λ x. a *ℤ x) xs)
map_within a [] u n h k = tt
map_within a (x ∷ xs) u n h k = (wider (u * n) (a *ℤ x) (times_within a x u n h k.0), map_within a xs u n h k.1)

pub mixed_within : (a : ℤ) (xs : List ℤ) (b : ℤ) (ys : List ℤ) (u n : ℕ) → unsigned_abs a ≤ u → unsigned_abs b ≤ u → Each (IsWithin n) xs → Each (IsWithin n) ys → Each (IsWithin (u * n + u * n)) (mixed a xs b ys)
mixed_within a [] b ys u n ha hb h k = map_within b ys u n hb k
mixed_within a (x ∷ xs) b [] u n ha hb h k = map_within a (x ∷ xs) u n ha h
mixed_within a (x ∷ xs) b (y ∷ ys) u n ha hb h k = (
  sum_within (a *ℤ x) (b *ℤ y) (u * n) (times_within a x u n ha h.0) (times_within b y u n hb k.0),
  mixed_within a xs b ys u n ha hb h.1 k.1,
)

pub within_at : (n v : ℕ) (xs : List ℤ) → Each (IsWithin n) xs → unsigned_abs (get_or xs v (pos 0)) ≤ n
within_at n v [] h = omega arith
within_at n zero (x ∷ xs) h = h.0.size
within_at n (suc v) (x ∷ xs) h = within_at n v xs h.1

abs_neg : (z : ℤ) → unsigned_abs (neg_ℤ z) ≡ unsigned_abs z
abs_neg z = omega (arith, ints)

-- one step: entries at most 2·e², multipliers at most 2·e·m
pub Sized-combined : (e m v : ℕ) (p n : Kept) → Sized e m p → Sized e m n → Sized (e * e + e * e) (e * m + e * m) (combined v p n)
unfolding combined
Sized-combined e m v p n h k =
    let a : unsigned_abs (neg_ℤ (entry v n)) ≤ e = rw (abs_neg (entry v n)) (within_at e v n.row.entries k.entries) in
    let b : unsigned_abs (entry v p) ≤ e = within_at e v p.row.entries h.entries in
    record {
      entries = mixed_within (neg_ℤ (entry v n)) p.row.entries (entry v p) n.row.entries e e a b h.entries k.entries;
      multipliers = mixed_within (neg_ℤ (entry v n)) p.multipliers (entry v p) n.multipliers e m a b h.multipliers k.multipliers;
    }

-- ---- no limit is passed
fits_within : (n : ℕ) (z : ℤ) → n ≤ 2 ^ 59 → IsWithin n z → fits z ≡ true
fits_within n z h k = le-leb (unsigned_abs z) (2 ^ 59) (omega (arith, k.size))

all_within : (n : ℕ) (xs : List ℤ) → n ≤ 2 ^ 59 → Each (IsWithin n) xs → list_all fits xs ≡ true
all_within n [] h k = refl
all_within n (x ∷ xs) h k = rw (fits_within n x h k.0) (all_within n xs h k.1)

pub two_within : (n m : ℕ) (xs ys : List ℤ) → n ≤ 2 ^ 59 → m ≤ 2 ^ 59 → Each (IsWithin n) xs → Each (IsWithin m) ys → list_all fits (xs ++ ys) ≡ true
two_within n m [] ys h k a b = all_within m ys k b
two_within n m (x ∷ xs) ys h k a b = rw (fits_within n x h a.0) (two_within n m xs ys h k a.1 b)

passes_by : (f z s d m : Bool) (rows : List Kept) (r : Kept)
    → cond (not f) (Err passes) (cond z (cond s (Err (refuted r.multipliers)) (Ok rows)) (cond d (Ok rows) (cond m (Err too_many) (Ok (rows ++ r ∷ []))))) ≡ Err passes → f ≡ false
passes_by false z s d m rows r h = refl
passes_by true true true d m rows r h = cc
passes_by true true false d m rows r h = cc
passes_by true false s true m rows r h = cc
passes_by true false s false true rows r h = cc
passes_by true false s false false rows r h = cc

pub row_within : (e m : ℕ) (rows : List Kept) (k : Kept) → e ≤ 2 ^ 59 → m ≤ 2 ^ 59 → Sized e m k → take_row rows k ≡ Err passes → ⊥
row_within e m rows k he hm h p =
    let s = Sized-reduced e m k h in
    both_ways _ (passes_by _ _ _ _ _ rows (reduced k) p) (two_within e m (reduced k).row.entries (reduced k).multipliers he hm s.entries s.multipliers)

none_passes : (rows : List Kept) → ◌≡◌ {A = Result (List Kept) Stop} (Ok rows) (Err passes) → ⊥
none_passes rows h = cc

-- rows of small numbers are taken with no number above 2^59
pub rows_within : (e m : ℕ) (rows ks : List Kept) → e ≤ 2 ^ 59 → m ≤ 2 ^ 59 → Each (Sized e m) ks → take_rows rows ks ≡ Err passes → ⊥
rows_within e m rows [] he hm h p = none_passes rows p
rows_within e m rows (k ∷ ks) he hm h p =
    ⊎_elim (λ (q : take_row rows k ≡ Err passes). row_within e m rows k he hm h.0 q)
    (λ (t : (more : List Kept) × (take_row rows k ≡ Ok more) × (take_rows more ks ≡ Err passes)). rows_within e m t.0 ks he hm h.1 t.2)
    (after-err (take_row rows k) (λ more. take_rows more ks) passes p)

-- the rows that are kept are as small
pub kept_within : (e m : ℕ) (ks out : List Kept) → take_rows [] ks ≡ Ok out → Each (Sized e m) ks → Each (Sized e m) out
kept_within e m ks out h s =
    rows_kept (Sized e m) [] ks out h (Each-weaker (Sized e m) (λ k. is_zero (reduced k) ≡ false → Sized e m (reduced k)) (λ k t z. Sized-reduced e m k t) ks s) tt

Sized-wider : (e m e' m' : ℕ) (k : Kept) → e ≤ e' → m ≤ m' → Sized e m k → Sized e' m' k
Sized-wider e m e' m' k h l s = record {
  entries = Each-weaker (IsWithin e) (IsWithin e') (λ z w. record { size = omega (arith, w.size) }) k.row.entries s.entries;
  multipliers = Each-weaker (IsWithin m) (IsWithin m') (λ z w. record { size = omega (arith, w.size) }) k.multipliers s.multipliers;
}

square_grows : (e : ℕ) → e ≤ e * e + e * e
square_grows e = grind arith

times_grows : (e m : ℕ) → 1 ≤ e → m ≤ e * m + e * m
times_grows e m h = grind arith

-- one column: the rows that are taken where it is eliminated
pub without_within : (e m v : ℕ) (rows : List Kept) → 1 ≤ e → Each (Sized e m) rows → Each (Sized (e * e + e * e) (e * m + e * m)) (without v rows)
without_within e m v rows h s =
    Each-without (Sized e m) (Sized (e * e + e * e) (e * m + e * m)) v rows
    (λ k t z. Sized-wider e m (e * e + e * e) (e * m + e * m) k (square_grows e) (times_grows e m h) z)
    (λ p n hp hn sp sn. Sized-combined e m v p n sp sn) s
