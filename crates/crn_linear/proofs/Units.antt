-- A form over its first entry that is not 0, and the sizes of what its cleared row is made of.
use Rattle.std.proofs.Common.{◌≡◌, ◌≢◌, ◌⊎◌, inl, inr, ⊎_elim, ℕ, zero, suc, ◌*◌, ◌/◌, ◌<◌, ◌≤◌, ◌^◌, List, [], ◌∷◌, length, get_or, cond, true, false, refl, sym, ap, ◌∙◌, subst, arith}
use Rattle.std.specs.Prelude.{ℤ, pos, negsuc, neg_ℤ, ◌<ℤ◌, unsigned_abs}
use Rattle.std.specs.Int.{◌∣◌}
use Rattle.std.proofs.lemmas.Int.{ints, unsigned_abs-mul}
use Rattle.std.proofs.lemmas.List.{length-map}
use Rattle.std.proofs.lemmas.Nat.Gcd.{le_of_dvd, dvd_refl}
use Rattle.std.proofs.Math.Nat.{div-mul_cancel, div-one}
use Rattle.std.proofs.lemmas.List as lists
use Rattle.crn_fraction.specs.Rational.{ℚ, IsLowest, ratio, whole, 0ℚ, ◌*ℚ◌, ◌/ℚ◌, neg_ℚ, inverse_ℚ, is_zero_ℚ}
use Rattle.crn_fraction.specs.Parts.{same_parts, ratio_lowest}
use Rattle.crn_fraction.proofs.Wholes.{num-whole, den-whole}
use Rattle.crn_fraction.proofs.Core.{zero_by_num}
use Rattle.crn_fraction.proofs.Ring.{ring_ℚ, q-writes, zero-*ℚ}
use Rattle.crn_fraction.proofs.Products.{*ℚ-inverse, /ℚ-is, is_zero_ℚ_cases}
use Rattle.crn_fraction.specs.Gcd.{factor_positive}
use Rattle.crn_fraction.specs.Frac.{abs_positive}
use Rattle.crn_linear.specs.Forms.{entry_of}
use Rattle.crn_linear.specs.Rows.{AreSmall}
use Rattle.crn_linear.specs.Cleared.{size_ℚ, pivot, common_den, unit_of, numerator_over, numerators, IsSmallFrac}
use Rattle.crn_linear.proofs.Denominators.{den-dvd-common_den, common_den-positive, common_den-least}

-- ---- a number without its sign
size_lowest : (x : ℚ) → IsLowest (pos (unsigned_abs x.num)) x.den
size_lowest x = record { positive = x.lowest.positive; coprime = x.lowest.coprime }

-- the size has the numerator without its sign
pub num-size_ℚ : (x : ℚ) → (size_ℚ x).num ≡ pos (unsigned_abs x.num)
num-size_ℚ x = ap (λ q. q.num) (ratio_lowest (pos (unsigned_abs x.num)) x.den (size_lowest x))

-- and the same denominator
pub den-size_ℚ : (x : ℚ) → (size_ℚ x).den ≡ x.den
den-size_ℚ x = ap (λ q. q.den) (ratio_lowest (pos (unsigned_abs x.num)) x.den (size_lowest x))

num_not_zero : (x : ℚ) → x ≢ 0ℚ → x.num ≡ pos 0 → ⊥
num_not_zero x h e = h (zero_by_num x e)

-- the size of a number other than 0 is above 0
pub size_positive : (x : ℚ) → x ≢ 0ℚ → pos 0 <ℤ (size_ℚ x).num
size_positive x h =
    let some = num_not_zero x h in
    rw (num-size_ℚ x) (above (x.num) some)
  where
    above : (n : ℤ) → (n ≡ pos 0 → ⊥) → pos 0 <ℤ pos (unsigned_abs n)
    above n f = omega (arith, ints)

-- ---- the first entry that is not 0
-- there is none, or there is one
pub pivot_cases : (form : List ℚ) → (((i : ℕ) → i < length form → entry_of form i ≡ 0ℚ) × (pivot form ≡ whole (pos 1)))
    ⊎ ((i : ℕ) × (i < length form) × (entry_of form i ≢ 0ℚ) × (pivot form ≡ size_ℚ (entry_of form i)))
pivot_cases [] = inl (λ i h. absurd (omega arith), refl)
pivot_cases (x ∷ form) = by_test (is_zero_ℚ_cases x) (pivot_cases form)
  where
    at_head : (e : x ≡ 0ℚ) → ((i : ℕ) → i < length form → entry_of form i ≡ 0ℚ) → (i : ℕ) → i < length (x ∷ form) → entry_of (x ∷ form) i ≡ 0ℚ
    at_head e f zero h = e
    at_head e f (suc i) h = f i (omega arith)

    by_test : ((x ≡ 0ℚ) × (is_zero_ℚ x ≡ true)) ⊎ ((x ≢ 0ℚ) × (is_zero_ℚ x ≡ false))
        → (((i : ℕ) → i < length form → entry_of form i ≡ 0ℚ) × (pivot form ≡ whole (pos 1)))
        ⊎ ((i : ℕ) × (i < length form) × (entry_of form i ≢ 0ℚ) × (pivot form ≡ size_ℚ (entry_of form i)))
        → (((i : ℕ) → i < length (x ∷ form) → entry_of (x ∷ form) i ≡ 0ℚ) × (pivot (x ∷ form) ≡ whole (pos 1)))
        ⊎ ((i : ℕ) × (i < length (x ∷ form)) × (entry_of (x ∷ form) i ≢ 0ℚ) × (pivot (x ∷ form) ≡ size_ℚ (entry_of (x ∷ form) i)))
    by_test (inl z) (inl none) = inl (at_head z.0 none.0, ap (λ t. cond t (pivot form) (size_ℚ x)) z.1 ∙ none.1)
    by_test (inl z) (inr (i, h, f, e)) = inr (suc i, omega arith, f, ap (λ t. cond t (pivot form) (size_ℚ x)) z.1 ∙ e)
    by_test (inr n) r = inr (0, omega arith, n.0, ap (λ t. cond t (pivot form) (size_ℚ x)) n.1)

-- either way it is above 0
pub pivot_positive : (form : List ℚ) → pos 0 <ℤ (pivot form).num
pivot_positive form =
    ⊎_elim (λ none. subst (λ q. pos 0 <ℤ q.num) (sym none.1) (rw (num-whole (pos 1)) (omega (arith, ints))))
    (λ (some : (i : ℕ) × (i < length form) × (entry_of form i ≢ 0ℚ) × (pivot form ≡ size_ℚ (entry_of form i))). subst (λ q. pos 0 <ℤ q.num) (sym some.3) (size_positive (entry_of form some.0) some.2))
    (pivot_cases form)

-- ---- a number over its size is 1 or -1
same_size : (x : ℚ) → pos 0 <ℤ x.num → size_ℚ x ≡ x
same_size x p = same_parts (size_ℚ x) x (num-size_ℚ x ∙ abs_positive x.num p) (den-size_ℚ x)

negative_size : (x : ℚ) → x.num <ℤ pos 0 → size_ℚ x ≡ neg_ℚ x
unfolding neg_ℚ
negative_size x p = ap (λ n. ratio n x.den) (down x.num p)
  where
    down : (n : ℤ) → n <ℤ pos 0 → pos (unsigned_abs n) ≡ neg_ℤ n
    down n h = omega (arith, ints)

-- 1 or -1
pub record IsSign (u : ℚ) : Type 0 where
  pub size : unsigned_abs u.num ≡ 1
  pub den : u.den ≡ 1

one_is_sign : (n : ℤ) (u : ℚ) → unsigned_abs n ≡ 1 → u ≡ whole n → IsSign u
one_is_sign n u h e = record { size = ap (λ q. unsigned_abs q.num) e ∙ ap unsigned_abs (num-whole n) ∙ h; den = ap (λ q. q.den) e ∙ den-whole n }

over_size : (x : ℚ) → x ≢ 0ℚ → IsSign (x /ℚ size_ℚ x)
over_size x h =
    ⊎_elim (λ p. one_is_sign (pos 1) (x /ℚ size_ℚ x) refl (/ℚ-is x (size_ℚ x) ∙ ap (λ s. x *ℚ inverse_ℚ s) (same_size x p) ∙ *ℚ-inverse x h))
    (λ p. one_is_sign (negsuc 0) (x /ℚ size_ℚ x) refl (below p)) (signs x.num (num_not_zero x h))
  where
    signs : (n : ℤ) → (n ≡ pos 0 → ⊥) → (pos 0 <ℤ n) ⊎ (n <ℤ pos 0)
    signs (pos zero) f = absurd (f refl)
    signs (pos (suc n)) f = inl (omega (arith, ints))
    signs (negsuc n) f = inr (omega (arith, ints))

    below : x.num <ℤ pos 0 → x /ℚ size_ℚ x ≡ whole (negsuc 0)
    below p =
        let s = size_ℚ x in
        let other : x ≡ neg_ℚ s = ring_ℚ (x ∷ []) {y = neg_ℚ (neg_ℚ x)} (search q-writes depth 20) (search q-writes depth 20) refl ∙ ap neg_ℚ (sym (negative_size x p)) in
        let some : s ≢ 0ℚ = λ e. h (other ∙ ap neg_ℚ e ∙ ring_ℚ [] {y = 0ℚ} (search q-writes depth 20) (search q-writes depth 20) refl) in
        /ℚ-is x s ∙ ap (λ y. y *ℚ inverse_ℚ s) other
        ∙ ring_ℚ (s ∷ inverse_ℚ s ∷ []) {y = neg_ℚ (s *ℚ inverse_ℚ s)} (search q-writes depth 20) (search q-writes depth 20) refl
        ∙ ap neg_ℚ (*ℚ-inverse s some) ∙ ring_ℚ [] {y = whole (negsuc 0)} (search q-writes depth 20) (search q-writes depth 20) refl

-- ---- entries
-- as many entries as the form
pub length-unit_of : (form : List ℚ) → length (unit_of form) ≡ length form
length-unit_of form = length-map form (λ x. x /ℚ pivot form)

-- each entry over the first that is not 0
pub entry-unit_of : (form : List ℚ) (i : ℕ) → i < length form → entry_of (unit_of form) i ≡ entry_of form i /ℚ pivot form
entry-unit_of form i h = lists.get_or-map (λ x. x /ℚ pivot form) form i 0ℚ 0ℚ h

-- the first entry that is not 0 becomes 1 or -1
pub unit_sign : (form : List ℚ) (i : ℕ) → i < length form → entry_of form i ≢ 0ℚ → pivot form ≡ size_ℚ (entry_of form i) → IsSign (entry_of (unit_of form) i)
unit_sign form i h n e = subst IsSign (sym (entry-unit_of form i h ∙ ap (λ p. entry_of form i /ℚ p) e)) (over_size (entry_of form i) n)

-- one numerator for each entry
pub length-numerators : (xs : List ℚ) → length (numerators xs) ≡ length xs
length-numerators xs = length-map xs (numerator_over (common_den xs))

-- over the least common denominator
pub entry-numerators : (xs : List ℚ) (i : ℕ) → i < length xs → get_or (numerators xs) i (pos 0) ≡ numerator_over (common_den xs) (entry_of xs i)
entry-numerators xs i h = lists.get_or-map (numerator_over (common_den xs)) xs i 0ℚ (pos 0) h

-- ---- sizes
part_positive : (m d : ℕ) → 0 < m → d ∣ m → 0 < m / d
part_positive m d p h = factor_positive (m / d) d m (div-mul_cancel d h) p

factor_small : (a s : ℕ) → 0 < s → a * s ≤ 2 ^ 59 → a ≤ 2 ^ 59
factor_small a s p h = let l : a ≤ a * s = grind arith in omega arith

entry_small : (form : List ℚ) (i : ℕ) → AreSmall (numerators (unit_of form)) → i < length form
    → unsigned_abs (entry_of (unit_of form) i).num * (common_den (unit_of form) / (entry_of (unit_of form) i).den) ≤ 2 ^ 59
entry_small form i s h =
    let us = unit_of form in
    let below : i < length us = rw (length-unit_of form) h in
    let u = entry_of us i in
    let e : unsigned_abs (get_or (numerators us) i (pos 0)) ≡ unsigned_abs u.num * (common_den us / u.den) =
    ap unsigned_abs (entry-numerators us i below) ∙ unsigned_abs-mul u.num (pos (common_den us / u.den)) in
    let small : unsigned_abs (get_or (numerators us) i (pos 0)) ≤ 2 ^ 59 = (s i (pos 0) (rw (length-numerators us) below)).size in
    subst (λ n. n ≤ 2 ^ 59) e small

-- where the cleared row is small, so is the least common denominator
pub common_den-small : (form : List ℚ) → AreSmall (numerators (unit_of form)) → common_den (unit_of form) ≤ 2 ^ 59
common_den-small form s =
    ⊎_elim
    (λ none.
    let ones : (i : ℕ) → i < length (unit_of form) → (entry_of (unit_of form) i).den ∣ 1 = λ i h.
    let below : i < length form = subst (λ n. i < n) (length-unit_of form) h in
    let zero_unit : entry_of (unit_of form) i ≡ 0ℚ = entry-unit_of form i below ∙ ap (λ x. x /ℚ pivot form) (none.0 i below) ∙ /ℚ-is 0ℚ (pivot form) ∙ zero-*ℚ (inverse_ℚ (pivot form)) in
    subst (λ d. d ∣ 1) (sym (ap (λ q. q.den) zero_unit ∙ den-whole (pos 0))) (dvd_refl 1) in
    let one = le_of_dvd (omega arith) (common_den-least (unit_of form) 1 ones) in
    omega arith)
    (λ (some : (i : ℕ) × (i < length form) × (entry_of form i ≢ 0ℚ) × (pivot form ≡ size_ℚ (entry_of form i))).
    let i = some.0 in
    let u = entry_of (unit_of form) i in
    let sign : IsSign u = unit_sign form i some.1 some.2 some.3 in
    let small = entry_small form i s some.1 in
    by_one (unsigned_abs u.num) u.den (common_den (unit_of form)) sign.size sign.den small)
    (pivot_cases form)
  where
    by_one : (n d m : ℕ) → n ≡ 1 → d ≡ 1 → n * (m / d) ≤ 2 ^ 59 → m ≤ 2 ^ 59
    by_one n d m e f h =
        let k : 1 * (m / 1) ≤ 2 ^ 59 = subst (λ t. t * (m / 1) ≤ 2 ^ 59) e (subst (λ t. n * (m / t) ≤ 2 ^ 59) f h) in
        let l : m / 1 ≡ m = div-one m in
        omega arith

-- and so are the parts of each entry over the first
pub units_small : (form : List ℚ) → AreSmall (numerators (unit_of form)) → (i : ℕ) → i < length (unit_of form) → IsSmallFrac (entry_of (unit_of form) i)
units_small form s i h =
    let us = unit_of form in
    let u = entry_of us i in
    let m = common_den us in
    let divides = den-dvd-common_den us i h in
    let below : i < length form = subst (λ n. i < n) (length-unit_of form) h in
    let den_below : u.den ≤ m = le_of_dvd (common_den-positive us) divides in
    let m_small = common_den-small form s in
    record {
      num_small = factor_small (unsigned_abs u.num) (m / u.den) (part_positive m u.den (common_den-positive us) divides) (entry_small form i s below);
      den_small = omega arith;
    }
