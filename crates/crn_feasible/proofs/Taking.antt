-- What it says that rows were taken into a list.
use Rattle.std.proofs.Common.{◌≡◌, ◌⊎◌, ⊎_elim, inl, inr, ℕ, ◌<◌, Bool, true, false, cond, not, List, [], ◌∷◌, ◌++◌, Result, Ok, Err, refl, sym, ap, ◌∙◌, subst, arith}
use Rattle.std.proofs.lemmas.Bool.{and_parts, or_cases}
use Rattle.std.specs.Prelude.{ℤ, pos, negsuc, unsigned_abs, int_div}
use Rattle.std.specs.List.{list_any, list_all}
use Rattle.std.specs.Ordering.{int_eq}
use Rattle.std.specs.Cmp.Lexicographic.{pointwise}
use Rattle.std.specs.Cmp.Rules.{signed_items}
use Rattle.std.specs.Bool.{beq}
use Rattle.std.proofs.Math.Nat.{eq-zero_of_zero-dvd, eq-zero-or-pos, zero-div}
use Rattle.std.proofs.lemmas.Int.{ints}
use Rattle.std.proofs.lemmas.Bool.Decides.{Decides-int_eq}
use Rattle.crn_fraction.specs.Rational.{ℚ, whole, ◌*ℚ◌, ◌≤ℚ◌, ◌<ℚ◌}
use Rattle.crn_fraction.proofs.Order.{≤ℚ_refl}
use Rattle.crn_fraction.proofs.Ring.{ring_ℚ, q-writes}
use Rattle.crn_fraction.proofs.Products.{whole-positive}
use Rattle.crn_linear.specs.Rows.{Meets, IsBelow, value}
use Rattle.crn_feasible.specs.Elimination.{Stop, refuted, passes, too_many, Kept, after, divisor, reduced, is_zero, direction, same_direction, take_row, take_rows}
use Rattle.crn_linear.specs.Cleared.{common, over}
use Rattle.crn_linear.proofs.Commons.{Divides, Divides-common, Divides-left, over-back}
use Rattle.crn_farkas.proofs.Mixing.{value-times}
use Rattle.crn_feasible.proofs.Orders.{Each, positive_times, positive_of_times}

-- ---- steps
pub after-ok : {A B : Type 0} (r : Result A Stop) (f : A → Result B Stop) (b : B) → after r f ≡ Ok b → (a : A) × (r ≡ Ok a) × (f a ≡ Ok b)
after-ok (Ok a) f b h = (a, refl, h)
after-ok (Err e) f b h = cc

pub after-err : {A B : Type 0} (r : Result A Stop) (f : A → Result B Stop) (e : Stop) → after r f ≡ Err e → (r ≡ Err e) ⊎ ((a : A) × (r ≡ Ok a) × (f a ≡ Err e))
after-err (Ok a) f e h = inr (a, refl, h)
after-err (Err d) f e h = inl (cc)

-- ---- one row
-- how row r was taken into the list rows
pub IsTaken : List Kept → Kept → List Kept → Type 0
IsTaken rows r out =
    ((is_zero r ≡ true) × (r.row.strict ≡ false) × (out ≡ rows))
    ⊎ (((is_zero r ≡ false) × (list_any (same_direction r) rows ≡ true) × (out ≡ rows)) ⊎ ((is_zero r ≡ false) × (out ≡ rows ++ r ∷ [])))

by_tests : (f z s d m : Bool) (rows : List Kept) (r : Kept) (out : List Kept)
    → cond (not f) (Err passes) (cond z (cond s (Err (refuted r.multipliers)) (Ok rows)) (cond d (Ok rows) (cond m (Err too_many) (Ok (rows ++ r ∷ []))))) ≡ Ok out
    → ((z ≡ true) × (s ≡ false) × (out ≡ rows)) ⊎ (((z ≡ false) × (d ≡ true) × (out ≡ rows)) ⊎ ((z ≡ false) × (out ≡ rows ++ r ∷ [])))
by_tests false z s d m rows r out h = cc
by_tests true true true d m rows r out h = cc
by_tests true true false d m rows r out h = inl (refl, refl, cc)
by_tests true false s true m rows r out h = inr (inl (refl, refl, cc))
by_tests true false s false true rows r out h = cc
by_tests true false s false false rows r out h = inr (inr (refl, cc))

refuted_by : (f z s d m : Bool) (rows : List Kept) (r : Kept) (c : List ℤ)
    → cond (not f) (Err passes) (cond z (cond s (Err (refuted r.multipliers)) (Ok rows)) (cond d (Ok rows) (cond m (Err too_many) (Ok (rows ++ r ∷ []))))) ≡ Err (refuted c)
    → (z ≡ true) × (s ≡ true) × (c ≡ r.multipliers)
refuted_by false z s d m rows r c h = cc
refuted_by true true true d m rows r c h = (refl, refl, cc)
refuted_by true true false d m rows r c h = cc
refuted_by true false s true m rows r c h = cc
refuted_by true false s false true rows r c h = cc
refuted_by true false s false false rows r c h = cc

pub taken : (rows : List Kept) (k : Kept) (out : List Kept) → take_row rows k ≡ Ok out → IsTaken rows (reduced k) out
unfolding IsTaken
taken rows k out h = by_tests _ _ _ _ _ rows (reduced k) out h

pub taken_refuted : (rows : List Kept) (k : Kept) (c : List ℤ) → take_row rows k ≡ Err (refuted c)
    → (is_zero (reduced k) ≡ true) × ((reduced k).row.strict ≡ true) × (c ≡ (reduced k).multipliers)
taken_refuted rows k c h = refuted_by _ _ _ _ _ rows (reduced k) c h

-- ---- lists
pub Each-append : {A : Type 0} (P : A → Type 0) (xs ys : List A) → Each P xs → Each P ys → Each P (xs ++ ys)
Each-append P [] ys h k = k
Each-append P (x ∷ xs) ys h k = (h.0, Each-append P xs ys h.1 k)

pub Each-left : {A : Type 0} (P : A → Type 0) (xs ys : List A) → Each P (xs ++ ys) → Each P xs
Each-left P [] ys h = tt
Each-left P (x ∷ xs) ys h = (h.0, Each-left P xs ys h.1)

pub Each-right : {A : Type 0} (P : A → Type 0) (xs ys : List A) → Each P (xs ++ ys) → Each P ys
Each-right P [] ys h = h
Each-right P (x ∷ xs) ys h = Each-right P xs ys h.1

-- ---- zero rows
pub zero_test : (x : ℤ) → int_eq x (pos 0) ≡ true → x ≡ pos 0
zero_test x h = (Decides-int_eq x (pos 0)).0 h

pub zeros_from_test : (xs : List ℤ) → list_all (λ x. int_eq x (pos 0)) xs ≡ true → Each (λ x. x ≡ pos 0) xs
zeros_from_test [] h = tt
zeros_from_test (x ∷ xs) h =
    let both = and_parts (int_eq x (pos 0)) (list_all (λ x. int_eq x (pos 0)) xs) h in
    (zero_test x both.0, zeros_from_test xs both.1)

pub test_from_zeros : (xs : List ℤ) → Each (λ x. x ≡ pos 0) xs → list_all (λ x. int_eq x (pos 0)) xs ≡ true
test_from_zeros [] h = refl
test_from_zeros (x ∷ xs) h =
    let t : int_eq x (pos 0) ≡ true = (Decides-int_eq x (pos 0)).1 h.0 in
    rw t (test_from_zeros xs h.1)

abs_zero : (x : ℤ) → unsigned_abs x ≡ 0 → x ≡ pos 0
abs_zero (pos n) h = ap pos h
abs_zero (negsuc n) h = absurd (omega (arith, h))

pub zeros_by_divisor : (xs : List ℤ) → Divides 0 xs → Each (λ x. x ≡ pos 0) xs
zeros_by_divisor [] h = tt
zeros_by_divisor (x ∷ xs) h = (abs_zero x (eq-zero_of_zero-dvd h.0), zeros_by_divisor xs h.1)

pub over_zeros : (g : ℕ) (xs : List ℤ) → Each (λ x. x ≡ pos 0) xs → Each (λ x. x ≡ pos 0) (over g xs)
over_zeros g [] h = tt
over_zeros g (x ∷ xs) h = (ap (λ y. int_div y (pos g)) h.0 ∙ ap pos (zero-div g), over_zeros g xs h.1)

true_false : {P : Type 0} (b : Bool) → b ≡ true → b ≡ false → P
true_false b h k = cc

pub common_pos : (k : Kept) → is_zero k ≡ false → 0 < common k.row.entries
common_pos k h =
    ⊎_elim
    (λ (e : common k.row.entries ≡ 0).
    true_false (is_zero k) (test_from_zeros k.row.entries (zeros_by_divisor k.row.entries (subst (λ g. Divides g k.row.entries) e (Divides-common k.row.entries)))) h)
    (λ (p : 0 < common k.row.entries). p) (eq-zero-or-pos (common k.row.entries))

pub Divides-entries : (k : Kept) → Divides (divisor k) k.row.entries
Divides-entries k = Divides-left (divisor k) k.row.entries k.multipliers (Divides-common (k.row.entries ++ k.multipliers))

pub divisor_pos : (k : Kept) → is_zero (reduced k) ≡ false → 0 < divisor k
unfolding reduced
divisor_pos k h =
    ⊎_elim
    (λ (e : divisor k ≡ 0).
    true_false (is_zero (reduced k)) (test_from_zeros (over (divisor k) k.row.entries) (over_zeros (divisor k) k.row.entries (zeros_by_divisor k.row.entries (subst (λ g. Divides g k.row.entries) e (Divides-entries k))))) h)
    (λ (p : 0 < divisor k). p) (eq-zero-or-pos (divisor k))

-- ---- the values of rows and of what they were divided to
pub value-over : (g : ℕ) (r : List ℤ) (xs : List ℚ) → Divides g r → value r xs ≡ whole (pos g) *ℚ value (over g r) xs
value-over g r xs h = ap (λ s. value s xs) (sym (over-back g r h)) ∙ value-times (pos g) (over g r) xs

pub value-zeros : (r : List ℤ) (xs : List ℚ) → Each (λ x. x ≡ pos 0) r → value r xs ≡ whole (pos 0)
value-zeros [] xs h = refl
value-zeros (a ∷ r) [] h = refl
value-zeros (a ∷ r) (x ∷ xs) h = rw (h.0, value-zeros r xs h.1) (ring_ℚ (x ∷ []) (search q-writes depth 20) (search q-writes depth 20) refl)

whole-pos : (g : ℕ) → 0 < g → whole (pos 0) <ℚ whole (pos g)
whole-pos g p = whole-positive (pos g) (omega (arith, ints))

-- ---- a point meets a row where it meets the row that was taken for it
-- the row as it was, from the row over its divisor
meets_reduced : (k : Kept) (xs : List ℚ) → 0 < divisor k → Meets (reduced k).row xs → Meets k.row xs
unfolding reduced
meets_reduced k xs p h =
    subst (λ t. IsBelow k.row.strict (whole (pos 0)) t) (sym (value-over (divisor k) k.row.entries xs (Divides-entries k)))
    (positive_times k.row.strict (whole (pos (divisor k))) (value (over (divisor k) k.row.entries) xs) (whole-pos (divisor k) p) h)

-- a weak zero row
meets_zero : (k : Kept) (xs : List ℚ) → is_zero (reduced k) ≡ true → (reduced k).row.strict ≡ false → Meets k.row xs
unfolding reduced
meets_zero k xs z s =
    let none = value-zeros (over (divisor k) k.row.entries) xs (zeros_from_test (over (divisor k) k.row.entries) z) in
    let v : value k.row.entries xs ≡ whole (pos 0) =
    value-over (divisor k) k.row.entries xs (Divides-entries k) ∙ ap (λ t. whole (pos (divisor k)) *ℚ t) none
    ∙ ring_ℚ (whole (pos (divisor k)) ∷ []) (search q-writes depth 20) (search q-writes depth 20) refl in
    subst (λ b. IsBelow b (whole (pos 0)) (value k.row.entries xs)) (sym s)
    (subst (λ t. whole (pos 0) ≤ℚ t) (sym v) (≤ℚ_refl (whole (pos 0))))

beq_same : (a b : Bool) → beq a b ≡ true → a ≡ b
beq_same true true h = refl
beq_same true false h = cc
beq_same false true h = cc
beq_same false false h = refl

pub same_parts_of : (a b : Kept) → same_direction a b ≡ true → (direction a.row.entries ≡ direction b.row.entries) × (a.row.strict ≡ b.row.strict)
unfolding same_direction
same_parts_of a b h =
    let both = and_parts (pointwise int_eq (direction a.row.entries) (direction b.row.entries)) (beq a.row.strict b.row.strict) h in
    ((signed_items (direction a.row.entries) (direction b.row.entries)).0 both.0, beq_same a.row.strict b.row.strict both.1)

value-direction : (r : List ℤ) (xs : List ℚ) → value r xs ≡ whole (pos (common r)) *ℚ value (direction r) xs
unfolding direction
value-direction r xs = value-over (common r) r xs (Divides-common r)

-- two rows of one direction and strength have the same points
pub meets_same : (a b : Kept) (xs : List ℚ) → is_zero a ≡ false → is_zero b ≡ false → same_direction a b ≡ true → Meets b.row xs → Meets a.row xs
meets_same a b xs za zb e h =
    let same = same_parts_of a b e in
    let to_direction : IsBelow b.row.strict (whole (pos 0)) (value (direction b.row.entries) xs) =
    positive_of_times b.row.strict (whole (pos (common b.row.entries))) (value (direction b.row.entries) xs) (whole-pos (common b.row.entries) (common_pos b zb))
    (subst (λ t. IsBelow b.row.strict (whole (pos 0)) t) (value-direction b.row.entries xs) h) in
    let at_a : IsBelow a.row.strict (whole (pos 0)) (value (direction a.row.entries) xs) =
    subst (λ s. IsBelow s (whole (pos 0)) (value (direction a.row.entries) xs)) (sym same.1)
    (subst (λ d. IsBelow b.row.strict (whole (pos 0)) (value d xs)) (sym same.0) to_direction) in
    subst (λ t. IsBelow a.row.strict (whole (pos 0)) t) (sym (value-direction a.row.entries xs))
    (positive_times a.row.strict (whole (pos (common a.row.entries))) (value (direction a.row.entries) xs) (whole-pos (common a.row.entries) (common_pos a za)) at_a)

unfoldable pub NonZero : Kept → Type 0
NonZero k = is_zero k ≡ false

pub meets_among : (r : Kept) (rows : List Kept) (xs : List ℚ) → is_zero r ≡ false → list_any (same_direction r) rows ≡ true
    → Each NonZero rows → Each (λ k. Meets k.row xs) rows → Meets r.row xs
unfolding NonZero
meets_among r [] xs z h n m = cc
meets_among r (k ∷ rows) xs z h n m =
    ⊎_elim (λ e. meets_same r k xs z n.0 e m.0) (λ e. meets_among r rows xs z e n.1 m.1)
    (or_cases (same_direction r k) (list_any (same_direction r) rows) h)

module _ (xs : List ℚ) where
  abbrev pub Met : Kept → Type 0
  Met k = Meets k.row xs

  pub row_met : (rows : List Kept) (k : Kept) (out : List Kept) → take_row rows k ≡ Ok out → Each NonZero rows → Each Met out → Each Met rows × Met k
  unfolding IsTaken
  row_met rows k out h n m =
      let r = reduced k in
      let Out : List Kept → Type 0 = λ o. Each Met o in
      ⊎_elim
      (λ (c : (is_zero r ≡ true) × (r.row.strict ≡ false) × (out ≡ rows)). (subst Out c.2 m, meets_zero k xs c.0 c.1))
      (λ (rest : ((is_zero r ≡ false) × (list_any (same_direction r) rows ≡ true) × (out ≡ rows)) ⊎ ((is_zero r ≡ false) × (out ≡ rows ++ r ∷ []))).
      ⊎_elim
      (λ (c : (is_zero r ≡ false) × (list_any (same_direction r) rows ≡ true) × (out ≡ rows)).
      let old : Each Met rows = subst Out c.2 m in
      (old, meets_reduced k xs (divisor_pos k c.0) (meets_among r rows xs c.0 c.1 n old)))
      (λ (c : (is_zero r ≡ false) × (out ≡ rows ++ r ∷ [])).
      let all : Each Met (rows ++ r ∷ []) = subst Out c.1 m in
      (Each-left Met rows (r ∷ []) all, meets_reduced k xs (divisor_pos k c.0) (Each-right Met rows (r ∷ []) all).0))
      rest)
      (taken rows k out h)

-- what holds of each row over its divisor holds of each row of the list
pub row_kept : (P : Kept → Type 0) (rows : List Kept) (k : Kept) (out : List Kept) → take_row rows k ≡ Ok out
    → (is_zero (reduced k) ≡ false → P (reduced k)) → Each P rows → Each P out
unfolding IsTaken
row_kept P rows k out h p all =
    let r = reduced k in
    let Out : List Kept → Type 0 = λ o. Each P o in
    ⊎_elim
    (λ (c : (is_zero r ≡ true) × (r.row.strict ≡ false) × (out ≡ rows)). subst Out (sym c.2) all)
    (λ (rest : ((is_zero r ≡ false) × (list_any (same_direction r) rows ≡ true) × (out ≡ rows)) ⊎ ((is_zero r ≡ false) × (out ≡ rows ++ r ∷ []))).
    ⊎_elim
    (λ (c : (is_zero r ≡ false) × (list_any (same_direction r) rows ≡ true) × (out ≡ rows)). subst Out (sym c.2) all)
    (λ (c : (is_zero r ≡ false) × (out ≡ rows ++ r ∷ [])). subst Out (sym c.1) (Each-append P rows (r ∷ []) all (p c.0, tt)))
    rest)
    (taken rows k out h)

-- ---- rows one after another
pub rows_kept : (P : Kept → Type 0) (rows ks out : List Kept) → take_rows rows ks ≡ Ok out
    → Each (λ k. is_zero (reduced k) ≡ false → P (reduced k)) ks → Each P rows → Each P out
rows_kept P rows [] out h q all = subst (λ (o : List Kept). Each P o) (cc) all
rows_kept P rows (k ∷ ks) out h q all =
    let s = after-ok (take_row rows k) (λ more. take_rows more ks) out h in
    rows_kept P s.0 ks out s.2 q.1 (row_kept P rows k s.0 s.1 q.0 all)

nonzero_reduced : (ks : List Kept) → Each (λ k. is_zero (reduced k) ≡ false → NonZero (reduced k)) ks
unfolding NonZero
nonzero_reduced [] = tt
nonzero_reduced (k ∷ ks) = (λ h. h, nonzero_reduced ks)

pub rows_nonzero : (rows ks out : List Kept) → take_rows rows ks ≡ Ok out → Each NonZero rows → Each NonZero out
rows_nonzero rows ks out h n = rows_kept NonZero rows ks out h (nonzero_reduced ks) n

-- a point that meets the list that was made meets each row that was taken
pub rows_met : (xs : List ℚ) (rows ks out : List Kept) → take_rows rows ks ≡ Ok out → Each NonZero rows → Each (Met xs) out → Each (Met xs) rows × Each (Met xs) ks
rows_met xs rows [] out h n m = (subst (λ (o : List Kept). Each (Met xs) o) (cc) m, tt)
rows_met xs rows (k ∷ ks) out h n m =
    let s = after-ok (take_row rows k) (λ more. take_rows more ks) out h in
    let nz : Each NonZero s.0 = rows_nonzero rows (k ∷ []) s.0 (ap (λ r. after r (λ more. Ok more)) s.1) n in
    let later = rows_met xs s.0 ks out s.2 nz m in
    let first = row_met xs rows k s.0 s.1 n later.0 in
    (first.0, (first.1, later.1))
