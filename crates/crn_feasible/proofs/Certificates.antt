-- The certificate that elimination answers is one.
use Rattle.std.proofs.Common.{◌≡◌, ⊎_elim, ℕ, zero, suc, ◌<◌, Bool, true, false, cond, List, [], ◌∷◌, ◌++◌, length, get_or, map, Result, Ok, Err, refl, sym, ap, ap₂, ◌∙◌, subst, arith, append_assoc}
use Rattle.std.specs.Prelude.{ℤ, pos, negsuc, neg_ℤ, ◌+ℤ◌, ◌*ℤ◌, ◌<ℤ◌, ◌≤ℤ◌, int_div, replicate, IsTrue}
use Rattle.std.specs.List.{All}
use Rattle.std.proofs.Math.Nat.{eq-zero-or-pos}
use Rattle.std.proofs.lemmas.Int.{ints}
use Rattle.std.proofs.lemmas.List.Elements.{All-nil, All-cons}
use Rattle.crn_fraction.specs.Rational.{ℚ}
use Rattle.crn_fraction.proofs.Core.{cancel_ℤ}
use Rattle.crn_fraction.proofs.Integers.{ring_ℤ, z-writes}
use Rattle.crn_fraction.proofs.Products.{nonneg_times, positive_times}
use Rattle.crn_linear.specs.Rows.{Row, dot}
use Rattle.crn_farkas.specs.Systems.{System, IsCertificate, column, no_row}
use Rattle.crn_feasible.specs.Elimination.{Stop, refuted, passes, Kept, after, reduced, divisor, is_zero, take_row, take_rows, entry, combined, without, numerators_over, next, coordinates, unit, started, elimination}
use Rattle.crn_linear.specs.Cleared.{over}
use Rattle.crn_farkas.specs.Mixtures.{mixed}
use Rattle.crn_linear.specs.Cleared.{common_den}
use Rattle.crn_linear.proofs.Sums.{dot-zeros}
use Rattle.crn_linear.proofs.Commons.{Divides, Divides-common, Divides-right, over-back, length-over}
use Rattle.crn_farkas.proofs.Mixing.{dot-times, dot-mixed, get_or-times, get_or-mixed}
use Rattle.crn_farkas.proofs.Motzkin.{IsNonnegative}
use Rattle.crn_feasible.proofs.Orders.{Each, Each-weaker}
use Rattle.crn_feasible.proofs.Taking.{after-err, taken_refuted, rows_kept, zeros_from_test, divisor_pos, Divides-entries, zeros_by_divisor}
use Rattle.crn_feasible.proofs.Points.{Each-without}

-- row k is the sum of its multiples of the rows
pub record IsMade (rows : List Row) (k : Kept) : Type 0 where
  pub one_each : length k.multipliers ≡ length rows
  pub nonneg : Each IsNonnegative k.multipliers
  pub sums : (v : ℕ) → dot k.multipliers (column v rows) ≡ get_or k.row.entries v (pos 0)
  pub some_strict : k.row.strict ≡ true → (i : ℕ) × IsTrue (get_or rows i no_row).strict × (pos 0 <ℤ get_or k.multipliers i (pos 0))

-- ---- over the divisor
nonneg_div : (x : ℤ) (g : ℕ) → pos 0 ≤ℤ x → pos 0 ≤ℤ int_div x (pos g)
nonneg_div (pos a) g h = omega (arith, ints)
nonneg_div (negsuc a) g h = absurd (omega (arith, ints))

nonneg_over : (g : ℕ) (xs : List ℤ) → Each IsNonnegative xs → Each IsNonnegative (over g xs)
nonneg_over g [] h = tt
nonneg_over g (x ∷ xs) h = (nonneg_div x g h.0, nonneg_over g xs h.1)

pub nonneg_at : (xs : List ℤ) (i : ℕ) → Each IsNonnegative xs → pos 0 ≤ℤ get_or xs i (pos 0)
nonneg_at [] i h = omega (arith, ints)
nonneg_at (x ∷ xs) zero h = h.0
nonneg_at (x ∷ xs) (suc i) h = nonneg_at xs i h.1

positive_factor : (g : ℕ) (z : ℤ) → pos 0 ≤ℤ z → pos 0 <ℤ (pos g *ℤ z) → pos 0 <ℤ z
positive_factor g (pos zero) h k = absurd (omega (arith, ints))
positive_factor g (pos (suc n)) h k = omega (arith, ints)
positive_factor g (negsuc n) h k = absurd (omega (arith, ints))

Divides-multipliers : (k : Kept) → Divides (divisor k) k.multipliers
Divides-multipliers k = Divides-right (divisor k) k.row.entries k.multipliers (Divides-common (k.row.entries ++ k.multipliers))

reduced_made : (rows : List Row) (k : Kept) → 0 < divisor k → IsMade rows k → IsMade rows (reduced k)
unfolding reduced
reduced_made rows k p made =
    let g = divisor k in
    let ms = k.multipliers in
    let back : map (λ x. pos g *ℤ x) (over g ms) ≡ ms = over-back g ms (Divides-multipliers k) in
    let back_entries : map (λ x. pos g *ℤ x) (over g k.row.entries) ≡ k.row.entries = over-back g k.row.entries (Divides-entries k) in
    let nn = nonneg_over g ms made.nonneg in
    record {
      one_each = length-over g ms ∙ made.one_each;
      nonneg = nn;
      sums = λ v.
          let col = column v rows in
          let left : dot (over g ms) col *ℤ pos g ≡ dot ms col =
          ring_ℤ (dot (over g ms) col ∷ pos g ∷ []) {y = pos g *ℤ dot (over g ms) col} (search z-writes depth 20) (search z-writes depth 20) refl
          ∙ sym (dot-times (pos g) (over g ms) col) ∙ ap (λ xs. dot xs col) back in
          let right : get_or (over g k.row.entries) v (pos 0) *ℤ pos g ≡ get_or k.row.entries v (pos 0) =
          ring_ℤ (get_or (over g k.row.entries) v (pos 0) ∷ pos g ∷ []) {y = pos g *ℤ get_or (over g k.row.entries) v (pos 0)} (search z-writes depth 20) (search z-writes depth 20) refl
          ∙ sym (get_or-times (pos g) (over g k.row.entries) v) ∙ ap (λ xs. get_or xs v (pos 0)) back_entries in
          cancel_ℤ (dot (over g ms) col) (get_or (over g k.row.entries) v (pos 0)) g p (left ∙ made.sums v ∙ sym right);
      some_strict = λ h.
          let s = made.some_strict h in
          let e : get_or ms s.0 (pos 0) ≡ pos g *ℤ get_or (over g ms) s.0 (pos 0) =
          sym (ap (λ xs. get_or xs s.0 (pos 0)) back) ∙ get_or-times (pos g) (over g ms) s.0 in
          (s.0, s.1, positive_factor g (get_or (over g ms) s.0 (pos 0)) (nonneg_at (over g ms) s.0 nn) (subst (λ t. pos 0 <ℤ t) e s.2));
    }

zero_at : (xs : List ℤ) (i : ℕ) → Each (λ x. x ≡ pos 0) xs → get_or xs i (pos 0) ≡ pos 0
zero_at [] i h = refl
zero_at (x ∷ xs) zero h = h.0
zero_at (x ∷ xs) (suc i) h = zero_at xs i h.1

strict_divisor : (rows : List Row) (k : Kept) → IsMade rows k → k.row.strict ≡ true → 0 < divisor k
strict_divisor rows k made h =
    ⊎_elim
    (λ (e : divisor k ≡ 0).
    let s = made.some_strict h in
    let z : get_or k.multipliers s.0 (pos 0) ≡ pos 0 = zero_at k.multipliers s.0 (zeros_by_divisor k.multipliers (subst (λ g. Divides g k.multipliers) e (Divides-multipliers k))) in
    absurd (omega (arith, ints, z, s.2)))
    (λ (p : 0 < divisor k). p) (eq-zero-or-pos (divisor k))

-- ---- combinations
length-times : (k : ℤ) (xs : List ℤ) → length (map (λ x. k *ℤ x) xs) ≡ length xs
length-times k [] = refl
length-times k (x ∷ xs) = ap suc (length-times k xs)

pub length-mixed : (a : ℤ) (xs : List ℤ) (b : ℤ) (ys : List ℤ) (n : ℕ) → length xs ≡ n → length ys ≡ n → length (mixed a xs b ys) ≡ n
length-mixed a [] b ys n h k = length-times b ys ∙ k
length-mixed a (x ∷ xs) b [] n h k = length-times a (x ∷ xs) ∙ h
length-mixed a (x ∷ xs) b (y ∷ ys) zero h k = absurd (omega (arith, h))
length-mixed a (x ∷ xs) b (y ∷ ys) (suc n) h k =
    ap suc (length-mixed a xs b ys n (omega (arith, h)) (omega (arith, k)))

nonneg_map : (a : ℤ) (xs : List ℤ) → pos 0 ≤ℤ a → Each IsNonnegative xs → Each IsNonnegative (map (λ x. a *ℤ x) xs)
nonneg_map a [] h k = tt
nonneg_map a (x ∷ xs) h k = (nonneg_times a x h k.0, nonneg_map a xs h k.1)

nonneg_mixed : (a : ℤ) (xs : List ℤ) (b : ℤ) (ys : List ℤ) → pos 0 ≤ℤ a → pos 0 ≤ℤ b → Each IsNonnegative xs → Each IsNonnegative ys → Each IsNonnegative (mixed a xs b ys)
nonneg_mixed a [] b ys ha hb h k = nonneg_map b ys hb k
nonneg_mixed a (x ∷ xs) b [] ha hb h k = nonneg_map a (x ∷ xs) ha h
nonneg_mixed a (x ∷ xs) b (y ∷ ys) ha hb h k =
    let l = nonneg_times a x ha h.0 in
    let m = nonneg_times b y hb k.0 in
    (omega (arith, ints, l, m), nonneg_mixed a xs b ys ha hb h.1 k.1)

combined_made : (rows : List Row) (v : ℕ) (p n : Kept) → pos 0 <ℤ entry v p → entry v n <ℤ pos 0 → IsMade rows p → IsMade rows n → IsMade rows (combined v p n)
unfolding combined
combined_made rows v p n hp hn mp mn =
    let a = neg_ℤ (entry v n) in
    let b = entry v p in
    let a_pos : pos 0 <ℤ a = omega (arith, ints) in
    record {
      one_each = length-mixed a p.multipliers b n.multipliers (length rows) mp.one_each mn.one_each;
      nonneg = nonneg_mixed a p.multipliers b n.multipliers (omega (arith, ints)) (omega (arith, ints)) mp.nonneg mn.nonneg;
      sums = λ w.
          dot-mixed a p.multipliers b n.multipliers (column w rows) ∙ ap₂ (λ s t. a *ℤ s +ℤ b *ℤ t) (mp.sums w) (mn.sums w)
          ∙ sym (get_or-mixed a p.row.entries b n.row.entries w);
      some_strict = some_strict_of a b a_pos hp p.row.strict n.row.strict mp.some_strict mn.some_strict;
    }
  where
    some_strict_of : (a b : ℤ) → pos 0 <ℤ a → pos 0 <ℤ b → (s t : Bool)
        → (s ≡ true → (i : ℕ) × IsTrue (get_or rows i no_row).strict × (pos 0 <ℤ get_or p.multipliers i (pos 0)))
        → (t ≡ true → (i : ℕ) × IsTrue (get_or rows i no_row).strict × (pos 0 <ℤ get_or n.multipliers i (pos 0)))
        → cond s true t ≡ true → (i : ℕ) × IsTrue (get_or rows i no_row).strict × (pos 0 <ℤ get_or (mixed a p.multipliers b n.multipliers) i (pos 0))
    some_strict_of a b ha hb true t f g h =
        let s = f refl in
        let l = positive_times a (get_or p.multipliers s.0 (pos 0)) ha s.2 in
        let m = nonneg_times b (get_or n.multipliers s.0 (pos 0)) (omega (arith, ints)) (nonneg_at n.multipliers s.0 mn.nonneg) in
        (s.0, s.1, subst (λ z. pos 0 <ℤ z) (sym (get_or-mixed a p.multipliers b n.multipliers s.0)) (omega (arith, ints, l, m)))
    some_strict_of a b ha hb false t f g h =
        let s = g h in
        let l = positive_times b (get_or n.multipliers s.0 (pos 0)) hb s.2 in
        let m = nonneg_times a (get_or p.multipliers s.0 (pos 0)) (omega (arith, ints)) (nonneg_at p.multipliers s.0 mp.nonneg) in
        (s.0, s.1, subst (λ z. pos 0 <ℤ z) (sym (get_or-mixed a p.multipliers b n.multipliers s.0)) (omega (arith, ints, l, m)))

without_made : (rows : List Row) (v : ℕ) (ks : List Kept) → Each (IsMade rows) ks → Each (IsMade rows) (without v ks)
without_made rows v ks h =
    Each-without (IsMade rows) (IsMade rows) v ks (λ k e m. m)
    (λ p n hp hn mp mn. combined_made rows v p n (omega (arith, ints, hp)) (omega (arith, ints, hn)) mp mn) h

-- ---- the first rows

dot-unit : (v : ℕ) (before : List Row) (r : Row) (rest : List Row)
    → dot (unit (length before) (length rest)) (column v (before ++ r ∷ rest)) ≡ get_or r.entries v (pos 0)
dot-unit v [] r rest = rw (dot-zeros (length rest) (column v rest)) (omega (arith, ints))
dot-unit v (b ∷ before) r rest = rw (dot-unit v before r rest) (omega (arith, ints))

length-replicate' : (n : ℕ) → length (replicate n (pos 0)) ≡ n
length-replicate' zero = refl
length-replicate' (suc n) = ap suc (length-replicate' n)

length-unit : (before : List Row) (r : Row) (rest : List Row) → length (unit (length before) (length rest)) ≡ length (before ++ r ∷ rest)
length-unit [] r rest = ap suc (length-replicate' (length rest))
length-unit (b ∷ before) r rest = ap suc (length-unit before r rest)

nonneg_zeros : (n : ℕ) → Each IsNonnegative (replicate n (pos 0))
nonneg_zeros zero = tt
nonneg_zeros (suc n) = (omega (arith, ints), nonneg_zeros n)

nonneg_unit : (before : List Row) (n : ℕ) → Each IsNonnegative (unit (length before) n)
nonneg_unit [] n = (omega (arith, ints), nonneg_zeros n)
nonneg_unit (b ∷ before) n = (omega (arith, ints), nonneg_unit before n)

row_there : (before : List Row) (r : Row) (rest : List Row) → get_or (before ++ r ∷ rest) (length before) no_row ≡ r
row_there [] r rest = refl
row_there (b ∷ before) r rest = row_there before r rest

one_there : (before : List Row) (n : ℕ) → get_or (unit (length before) n) (length before) (pos 0) ≡ pos 1
one_there [] n = refl
one_there (b ∷ before) n = one_there before n

first_made : (before : List Row) (r : Row) (rest : List Row) → IsMade (before ++ r ∷ rest) (record { row = r; multipliers = unit (length before) (length rest) })
first_made before r rest = record {
  one_each = length-unit before r rest;
  nonneg = nonneg_unit before (length rest);
  sums = λ v. dot-unit v before r rest;
  some_strict = λ h. (
    length before,
    ap (λ (s : Row). s.strict) (row_there before r rest) ∙ h,
    subst (λ z. pos 0 <ℤ z) (sym (one_there before (length rest))) (omega (arith, ints)),
  );
}

length-push : (before : List Row) (r : Row) → length (before ++ r ∷ []) ≡ suc (length before)
length-push [] r = refl
length-push (b ∷ before) r = ap suc (length-push before r)

started_made : (before rest : List Row) → Each (IsMade (before ++ rest)) (started (length before) rest)
started_made before [] = tt
started_made before (r ∷ rest) = (
  first_made before r rest,
  subst (λ i. Each (IsMade (before ++ r ∷ rest)) (started i rest)) (length-push before r)
      (subst (λ rows. Each (IsMade rows) (started (length (before ++ r ∷ [])) rest)) (append_assoc before (r ∷ []) rest) (started_made (before ++ r ∷ []) rest)),
)

-- ---- the certificate
to_All : (xs : List ℤ) → Each IsNonnegative xs → All IsNonnegative xs
to_All [] h = All-nil IsNonnegative
to_All (x ∷ xs) h = All-cons IsNonnegative x xs h.0 (to_All xs h.1)

strict_same : (k : Kept) → (reduced k).row.strict ≡ true → k.row.strict ≡ true
unfolding reduced
strict_same k e = e

certified : (s : System) (k : Kept) (c : List ℤ) → IsMade s.rows k → (is_zero (reduced k) ≡ true) × ((reduced k).row.strict ≡ true) × (c ≡ (reduced k).multipliers) → IsCertificate s c
certified s k c made h =
    let m = reduced_made s.rows k (strict_divisor s.rows k made (strict_same k h.1)) made in
    subst (λ (o : List ℤ). IsCertificate s o) (sym h.2)
    (record {
      one_each = m.one_each;
      nonnegative = to_All (reduced k).multipliers m.nonneg;
      zero_sum = λ v l. m.sums v ∙ zero_at (reduced k).row.entries v (zeros_from_test (reduced k).row.entries h.0);
      some_strict = m.some_strict h.1;
    })

rows_refuted : (s : System) (rows ks : List Kept) (c : List ℤ) → take_rows rows ks ≡ Err (refuted c) → Each (IsMade s.rows) ks → IsCertificate s c
rows_refuted s rows [] c h m = absurd (differ rows c h)
  where
    differ : (rows : List Kept) (c : List ℤ) → ◌≡◌ {A = Result (List Kept) Stop} (Ok rows) (Err (refuted c)) → ⊥
    differ rows c e = cc
rows_refuted s rows (k ∷ ks) c h m =
    ⊎_elim (λ (e : take_row rows k ≡ Err (refuted c)). certified s k c m.0 (taken_refuted rows k c e))
    (λ (t : (more : List Kept) × (take_row rows k ≡ Ok more) × (take_rows more ks ≡ Err (refuted c))). rows_refuted s t.0 ks c t.2 m.1)
    (after-err (take_row rows k) (λ more. take_rows more ks) (refuted c) h)

kept_made : (rows : List Row) (ks : List Kept) → Each (IsMade rows) ks → Each (λ k. is_zero (reduced k) ≡ false → IsMade rows (reduced k)) ks
kept_made rows ks h = Each-weaker (IsMade rows) (λ k. is_zero (reduced k) ≡ false → IsMade rows (reduced k)) (λ k m z. reduced_made rows k (divisor_pos k z) m) ks h

no_refusal : (t : Bool) (all : List ℚ) (c : List ℤ) → cond t (Ok all) (Err passes) ≡ Err (refuted c) → ⊥
no_refusal true all c h = cc
no_refusal false all c h = cc

coordinates_refuted : (s : System) (v : ℕ) (ks : List Kept) (c : List ℤ) → coordinates v ks ≡ Err (refuted c) → Each (IsMade s.rows) ks → IsCertificate s c
coordinates_refuted s zero ks c h m = absurd (differ c h)
  where
    differ : (c : List ℤ) → ◌≡◌ {A = Result (List ℚ) Stop} (Ok []) (Err (refuted c)) → ⊥
    differ c e = cc
coordinates_refuted s (suc v) ks c h m =
    let made : Each (IsMade s.rows) (without v ks) = without_made s.rows v ks m in
    ⊎_elim (λ (e : take_rows [] (without v ks) ≡ Err (refuted c)). rows_refuted s [] (without v ks) c e made)
    (λ (t : (rest : List Kept) × (take_rows [] (without v ks) ≡ Ok rest) × (after (coordinates v rest) (next v ks) ≡ Err (refuted c))).
    ⊎_elim
    (λ (e : coordinates v t.0 ≡ Err (refuted c)).
    coordinates_refuted s v t.0 c e (rows_kept (IsMade s.rows) [] (without v ks) t.0 t.1 (kept_made s.rows (without v ks) made) tt))
    (λ (u : (xs : List ℚ) × (coordinates v t.0 ≡ Ok xs) × (next v ks xs ≡ Err (refuted c))). absurd (no_refusal _ _ c u.2))
    (after-err (coordinates v t.0) (next v ks) (refuted c) t.2))
    (after-err (take_rows [] (without v ks)) (λ rest. after (coordinates v rest) (next v ks)) (refuted c) h)

pub elimination_refutes : (s : System) (c : List ℤ) → elimination s ≡ Err (refuted c) → IsCertificate s c
elimination_refutes s c h =
    let ks = started 0 s.rows in
    let made : Each (IsMade s.rows) ks = started_made [] s.rows in
    ⊎_elim (λ (e : take_rows [] ks ≡ Err (refuted c)). rows_refuted s [] ks c e made)
    (λ (t : (rows : List Kept) × (take_rows [] ks ≡ Ok rows) × (after (coordinates s.columns rows) (λ xs. Ok (numerators_over (common_den xs) xs)) ≡ Err (refuted c))).
    ⊎_elim
    (λ (e : coordinates s.columns t.0 ≡ Err (refuted c)).
    coordinates_refuted s s.columns t.0 c e (rows_kept (IsMade s.rows) [] ks t.0 t.1 (kept_made s.rows ks made) tt))
    (λ (u : (xs : List ℚ) × (coordinates s.columns t.0 ≡ Ok xs) × (◌≡◌ {A = Result (List ℤ) Stop} (Ok (numerators_over (common_den xs) xs)) (Err (refuted c)))). absurd (differ _ c u.2))
    (after-err (coordinates s.columns t.0) (λ xs. Ok (numerators_over (common_den xs) xs)) (refuted c) t.2))
    (after-err (take_rows [] ks) (λ rows. after (coordinates s.columns rows) (λ xs. Ok (numerators_over (common_den xs) xs))) (refuted c) h)
  where
    differ : (p c : List ℤ) → ◌≡◌ {A = Result (List ℤ) Stop} (Ok p) (Err (refuted c)) → ⊥
    differ p c e = cc
