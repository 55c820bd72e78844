-- The point that elimination answers meets the system.
use Rattle.std.proofs.Common.{◌≡◌, ◌⊎◌, ⊎_elim, ℕ, zero, suc, ◌<◌, ◌≤◌, true, false, List, [], ◌∷◌, ◌++◌, length, get_or, map, Ok, refl, sym, ap, ap₂, ◌∙◌, subst, arith}
use Rattle.std.proofs.lemmas.List.{get_or_past}
use Rattle.std.specs.Prelude.{ℤ, pos, neg_ℤ, ◌+ℤ◌, ◌*ℤ◌, int_lt, int_div}
use Rattle.std.specs.List.{flat_map, list_all, All}
use Rattle.std.specs.Ordering.{int_eq}
use Rattle.std.specs.Int.{◌∣◌}
use Rattle.std.proofs.Math.Nat.{zero-div}
use Rattle.std.proofs.lemmas.Int.{ints}
use Rattle.std.proofs.lemmas.Bool.Decides.{Decides-int_eq}
use Rattle.std.proofs.lemmas.List.Elements.{All-cons, All-head, All-tail}
use Rattle.std.proofs.lemmas.Bool.{both_ways}
use Rattle.crn_fraction.specs.Rational.{ℚ, whole, ◌*ℚ◌}
use Rattle.crn_fraction.proofs.Integers.{ring_ℤ, z-writes}
use Rattle.crn_fraction.proofs.Ring.{ring_ℚ, q-writes}
use Rattle.crn_fraction.proofs.Products.{whole-positive}
use Rattle.crn_linear.specs.Forms.{entry_of, wholes}
use Rattle.crn_linear.proofs.Denominators.{den-dvd-common_den, common_den-positive}
use Rattle.crn_linear.proofs.Multiples.{numerator_is}
use Rattle.crn_linear.proofs.WholePoints.{meets_whole}
use Rattle.crn_linear.specs.Rows.{Row, Meets, MeetsWhole, IsBelow, value}
use Rattle.crn_farkas.specs.Systems.{System, IsRectangular, IsWholePoint}
use Rattle.crn_linear.proofs.Commons.{get_or-over}
use Rattle.crn_feasible.specs.Elimination.{Kept, after, reduced, divisor, is_zero, take_rows, entry, zeros, positives, negatives, combined, without, bound, between, numerators_over, next, coordinates, started, elimination}
use Rattle.crn_linear.specs.Cleared.{common_den}
use Rattle.crn_farkas.proofs.Mixing.{get_or-mixed}
use Rattle.crn_feasible.proofs.Long.{next_is, coordinates-long}
use Rattle.crn_feasible.proofs.Orders.{Each, Each-weaker, positive_times}
use Rattle.crn_feasible.proofs.Between.{Each-both, Each-map}
use Rattle.crn_feasible.proofs.Taking.{Met, NonZero, after-ok, Each-append, rows_kept, rows_nonzero, rows_met, test_from_zeros}
use Rattle.crn_feasible.proofs.Columns.{Each-passes, Each-filter, column_met}

-- ---- columns that are gone stay gone
unfoldable pub ZeroFrom : ℕ → Kept → Type 0
ZeroFrom v k = (i : ℕ) → v ≤ i → get_or k.row.entries i (pos 0) ≡ pos 0

pub zero_reduced : (v : ℕ) (k : Kept) → ZeroFrom v k → ZeroFrom v (reduced k)
unfolding ZeroFrom reduced
zero_reduced v k h i l = get_or-over (divisor k) k.row.entries i ∙ ap (λ z. int_div z (pos (divisor k))) (h i l) ∙ ap pos (zero-div (divisor k))

at_or_after : (v i : ℕ) → v ≤ i → (i ≡ v) ⊎ (suc v ≤ i)
at_or_after v i h = grind arith

pub zero_zeros : (v : ℕ) (k : Kept) → int_eq (entry v k) (pos 0) ≡ true → ZeroFrom (suc v) k → ZeroFrom v k
unfolding ZeroFrom
zero_zeros v k e h i l =
    ⊎_elim (λ (f : i ≡ v). ap (λ j. get_or k.row.entries j (pos 0)) f ∙ (Decides-int_eq (entry v k) (pos 0)).0 e) (λ f. h i f) (at_or_after v i l)

cancels : (a b : ℤ) → neg_ℤ b *ℤ a +ℤ a *ℤ b ≡ pos 0
cancels a b = ring_ℤ (a ∷ b ∷ []) (search z-writes depth 20) (search z-writes depth 20) refl

stays : (a b : ℤ) → a *ℤ pos 0 +ℤ b *ℤ pos 0 ≡ pos 0
stays a b = ring_ℤ (a ∷ b ∷ []) (search z-writes depth 20) (search z-writes depth 20) refl

pub zero_combined : (v : ℕ) (p n : Kept) → ZeroFrom (suc v) p → ZeroFrom (suc v) n → ZeroFrom v (combined v p n)
unfolding ZeroFrom combined
zero_combined v p n hp hn i l =
    get_or-mixed (neg_ℤ (entry v n)) p.row.entries (entry v p) n.row.entries i
    ∙ ⊎_elim
    (λ (f : i ≡ v).
    ap₂ (λ s t. neg_ℤ (entry v n) *ℤ s +ℤ entry v p *ℤ t) (ap (λ j. get_or p.row.entries j (pos 0)) f) (ap (λ j. get_or n.row.entries j (pos 0)) f)
    ∙ cancels (entry v p) (entry v n))
    (λ f. ap₂ (λ s t. neg_ℤ (entry v n) *ℤ s +ℤ entry v p *ℤ t) (hp i f) (hn i f) ∙ stays (neg_ℤ (entry v n)) (entry v p))
    (at_or_after v i l)

pub Each-to_flat_map : {A B : Type 0} (P : B → Type 0) (f : A → List B) (xs : List A) → Each (λ x. Each P (f x)) xs → Each P (flat_map f xs)
Each-to_flat_map P f [] h = tt
Each-to_flat_map P f (x ∷ xs) h = Each-append P (f x) (flat_map f xs) h.0 (Each-to_flat_map P f xs h.1)

-- what holds of the rows with no entry in column v and of the combined rows holds of all that are taken
pub Each-without : (P Q : Kept → Type 0) (v : ℕ) (rows : List Kept) → ((k : Kept) → int_eq (entry v k) (pos 0) ≡ true → P k → Q k)
    → ((p n : Kept) → int_lt (pos 0) (entry v p) ≡ true → int_lt (entry v n) (pos 0) ≡ true → P p → P n → Q (combined v p n)) → Each P rows → Each Q (without v rows)
Each-without P Q v rows f g h =
    let ps = positives v rows in
    let ns = negatives v rows in
    let low : Kept → Type 0 = λ k. int_lt (pos 0) (entry v k) ≡ true in
    let high : Kept → Type 0 = λ k. int_lt (entry v k) (pos 0) ≡ true in
    let none : Kept → Type 0 = λ k. int_eq (entry v k) (pos 0) ≡ true in
    Each-append Q (zeros v rows) (flat_map (λ p. map (combined v p) ns) ps)
    (Each-both none P Q f (zeros v rows) (Each-passes (λ k. int_eq (entry v k) (pos 0)) rows) (Each-filter P (λ k. int_eq (entry v k) (pos 0)) rows h))
    (Each-to_flat_map Q (λ p. map (combined v p) ns) ps
    (Each-both low P (λ p. Each Q (map (combined v p) ns))
    (λ p hp a. Each-map Q (combined v p) ns
    (Each-both high P (λ n. Q (combined v p n)) (λ n hn b. g p n hp hn a b) ns
    (Each-passes (λ k. int_lt (entry v k) (pos 0)) rows) (Each-filter P (λ k. int_lt (entry v k) (pos 0)) rows h)))
    ps (Each-passes (λ k. int_lt (pos 0) (entry v k)) rows) (Each-filter P (λ k. int_lt (pos 0) (entry v k)) rows h)))

without_zero : (v : ℕ) (rows : List Kept) → Each (ZeroFrom (suc v)) rows → Each (λ k. is_zero (reduced k) ≡ false → ZeroFrom v (reduced k)) (without v rows)
without_zero v rows h =
    Each-weaker (ZeroFrom v) (λ k. is_zero (reduced k) ≡ false → ZeroFrom v (reduced k)) (λ k z n. zero_reduced v k z) (without v rows)
    (Each-without (ZeroFrom (suc v)) (ZeroFrom v) v rows (λ k e z. zero_zeros v k e z) (λ p n hp hn a b. zero_combined v p n a b) h)

-- ---- the coordinates
pub all_zero : (r : List ℤ) → ((i : ℕ) → zero ≤ i → get_or r i (pos 0) ≡ pos 0) → Each (λ x. x ≡ pos 0) r
all_zero [] h = tt
all_zero (x ∷ r) h = (h zero (omega arith), all_zero r (λ i l. h (suc i) (omega arith)))

no_column : (xs : List ℚ) (k : Kept) → NonZero k → ZeroFrom zero k → Met xs k
unfolding NonZero ZeroFrom
no_column xs k n z = let t : list_all (λ x. int_eq x (pos 0)) k.row.entries ≡ true = test_from_zeros k.row.entries (all_zero k.row.entries z) in absurd (both_ways _ n t)

pub coordinates_met : (v : ℕ) (rows : List Kept) (ys : List ℚ) → coordinates v rows ≡ Ok ys → Each NonZero rows → Each (ZeroFrom v) rows → Each (Met ys) rows
coordinates_met zero rows ys h n z = Each-both NonZero (ZeroFrom zero) (Met ys) (λ k a b. no_column ys k a b) rows n z
coordinates_met (suc v) rows ys h n z =
    let s = after-ok (take_rows [] (without v rows)) (λ rest. after (coordinates v rest) (next v rows)) ys h in
    let rest = s.0 in
    let t = after-ok (coordinates v rest) (next v rows) ys s.2 in
    let xs = t.0 in
    let nz : Each NonZero rest = rows_nonzero [] (without v rows) rest s.1 tt in
    let zf : Each (ZeroFrom v) rest = rows_kept (ZeroFrom v) [] (without v rows) rest s.1 (without_zero v rows z) tt in
    let met = rows_met xs [] (without v rows) rest s.1 tt (coordinates_met v rest xs t.1 nz zf) in
    let x : ℚ = between (map (bound v xs) (positives v rows)) (map (bound v xs) (negatives v rows)) in
    let e : ys ≡ xs ++ x ∷ [] = next_is _ (xs ++ x ∷ []) ys t.2 in
    subst (λ (o : List ℚ). Each (Met o) rows) (sym e) (column_met v xs rows (coordinates-long v rest xs t.1) met.1)

-- ---- the coordinates over one denominator
value-scaled : (r : List ℤ) (k : ℚ) (xs : List ℚ) → value r (map (λ q. k *ℚ q) xs) ≡ k *ℚ value r xs
value-scaled [] k xs = ring_ℚ (k ∷ []) (search q-writes depth 20) (search q-writes depth 20) refl
value-scaled (a ∷ r) k [] = ring_ℚ (k ∷ []) (search q-writes depth 20) (search q-writes depth 20) refl
value-scaled (a ∷ r) k (x ∷ xs) =
    rw (value-scaled r k xs) (ring_ℚ (whole a ∷ k ∷ x ∷ value r xs ∷ []) (search q-writes depth 20) (search q-writes depth 20) refl)

-- what holds at each index holds of each
pub Each-from_index : (P : ℚ → Type 0) (qs : List ℚ) → ((i : ℕ) → i < length qs → P (entry_of qs i)) → Each P qs
Each-from_index P [] h = tt
Each-from_index P (q ∷ qs) h = (h 0 (omega arith), Each-from_index P qs (λ i l. h (suc i) (omega arith)))

pub Each-at_index : (P : ℚ → Type 0) (qs : List ℚ) → Each P qs → (i : ℕ) → i < length qs → P (entry_of qs i)
Each-at_index P [] h i l = absurd (omega arith)
Each-at_index P (q ∷ qs) h zero l = h.0
Each-at_index P (q ∷ qs) h (suc i) l = Each-at_index P qs h.1 i (omega arith)

wholes-numerators : (d : ℕ) (qs : List ℚ) → Each (λ q. q.den ∣ d) qs → wholes (numerators_over d qs) ≡ map (λ q. whole (pos d) *ℚ q) qs
wholes-numerators d [] h = refl
wholes-numerators d (q ∷ qs) h = ap₂ (λ x xs. x ∷ xs) (numerator_is d q h.0) (wholes-numerators d qs h.1)

pub whole_point_met : (k : Row) (qs : List ℚ) → Meets k qs → MeetsWhole k (numerators_over (common_den qs) qs)
whole_point_met k qs h =
    let d = common_den qs in
    let divides : Each (λ q. q.den ∣ d) qs = Each-from_index (λ q. q.den ∣ d) qs (den-dvd-common_den qs) in
    let e : value k.entries (wholes (numerators_over d qs)) ≡ whole (pos d) *ℚ value k.entries qs =
    ap (value k.entries) (wholes-numerators d qs divides) ∙ value-scaled k.entries (whole (pos d)) qs in
    let positive : 0 < d = common_den-positive qs in
    (meets_whole k (numerators_over d qs)).0
    (subst (λ t. IsBelow k.strict (whole (pos 0)) t) (sym e)
    (positive_times k.strict (whole (pos d)) (value k.entries qs) (whole-positive (pos d) (omega (arith, ints))) h))

-- ---- the law
unfoldable pub HasFullRows : System → Type 0
HasFullRows s = Each (λ r. length r.entries ≡ s.columns) s.rows

pub past : (n : ℕ) (k : Kept) → length k.row.entries ≡ n → ZeroFrom n k
unfolding ZeroFrom
past n k e i l = get_or_past k.row.entries i (pos 0) (omega (arith, e))

started_zero : (n i : ℕ) (rows : List Row) → Each (λ r. length r.entries ≡ n) rows → Each (λ k. is_zero (reduced k) ≡ false → ZeroFrom n (reduced k)) (started i rows)
started_zero n i [] h = tt
started_zero n i (r ∷ rows) h = (λ e. zero_reduced n _ (past n _ h.0), started_zero n (suc i) rows h.1)

started_met : (qs : List ℚ) (i : ℕ) (rows : List Row) → Each (Met qs) (started i rows) → All (λ r. MeetsWhole r (numerators_over (common_den qs) qs)) rows
started_met qs i [] h = λ k d l. absurd (omega arith)
started_met qs i (r ∷ rows) h = All-cons (λ r. MeetsWhole r (numerators_over (common_den qs) qs)) r rows (whole_point_met r qs h.0) (started_met qs (suc i) rows h.1)

pub elimination_meets : (s : System) (p : List ℤ) → HasFullRows s → elimination s ≡ Ok p → IsWholePoint s p
unfolding HasFullRows
elimination_meets s p sys h =
    let ks = started 0 s.rows in
    let one = after-ok (take_rows [] ks) (λ rows. after (coordinates s.columns rows) (λ xs. Ok (numerators_over (common_den xs) xs))) p h in
    let rows = one.0 in
    let two = after-ok (coordinates s.columns rows) (λ xs. Ok (numerators_over (common_den xs) xs)) p one.2 in
    let qs = two.0 in
    let e : p ≡ numerators_over (common_den qs) qs = let f = two.2 in cc in
    let nz : Each NonZero rows = rows_nonzero [] ks rows one.1 tt in
    let zf : Each (ZeroFrom s.columns) rows = rows_kept (ZeroFrom s.columns) [] ks rows one.1 (started_zero s.columns 0 s.rows sys) tt in
    let met = coordinates_met s.columns rows qs two.1 nz zf in
    let all = rows_met qs [] ks rows one.1 tt met in
    subst (λ (o : List ℤ). All (λ r. MeetsWhole r o) s.rows) (sym e) (started_met qs 0 s.rows all.1)

pub full_rows : (s : System) → IsRectangular s → HasFullRows s
unfolding HasFullRows
full_rows s h = each s.columns s.rows h.lengths
  where
    each : (n : ℕ) (rows : List Row) → All (λ r. length r.entries ≡ n) rows → Each (λ r. length r.entries ≡ n) rows
    each n [] h = tt
    each n (r ∷ rows) h = (All-head (λ r. length r.entries ≡ n) r rows h, each n rows (All-tail (λ r. length r.entries ≡ n) r rows h))
