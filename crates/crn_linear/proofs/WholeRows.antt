-- The cleared row of whole numbers: each over their greatest common divisor.
use Rattle.std.proofs.Common.{◌-◌, ◌≡◌, ⊎_elim, inl, inr, ℕ, zero, suc, ◌*◌, ◌<◌, ◌≤◌, List, [], ◌∷◌, length, get_or, map, refl, sym, ap, ap₂, ◌∙◌, subst, arith}
use Rattle.std.specs.Prelude.{ℤ, pos, ◌*ℤ◌, unsigned_abs, int_div}
use Rattle.std.specs.List.{All}
use Rattle.std.specs.Int.{◌∣◌}
use Rattle.std.proofs.Math.Nat.{mul-dvd-mul_right, dvd_of_mul-dvd-mul_right, eq-zero-or-pos, eq-zero_of_zero-dvd, eq-one_of_dvd-one, div-mul_cancel}
use Rattle.crn_fraction.specs.Rational.{ℚ, ratio, whole, ◌*ℚ◌}
use Rattle.std.proofs.lemmas.Int.{ints}
use Rattle.crn_fraction.specs.Rational.{unsigned_abs-int_div}
use Rattle.crn_fraction.proofs.Core.{ratio_same}
use Rattle.crn_fraction.proofs.Order.{ratio-<ℚ}
use Rattle.crn_fraction.proofs.Products.{whole_positive}
use Rattle.crn_fraction.proofs.Ring.{ring_ℚ, q-writes}
use Rattle.crn_fraction.proofs.Ratios.{ratio-*ℚ}
use Rattle.crn_fraction.proofs.Integers.{ring_ℤ, z-writes}
use Rattle.crn_linear.specs.Forms.{wholes}
use Rattle.crn_linear.specs.Rows.{IsSmall, AreSmall}
use Rattle.crn_linear.specs.Cleared.{common, over, HaveNoDivisor, cleared}
use Rattle.crn_linear.proofs.Commons.{Divides, Divides-all, Divides-common, common-greatest, div_back, length-over, get_or-over, quotient_small}
use Rattle.std.proofs.Math.Nat.{zero-div}
use Rattle.crn_fraction.specs.Parts.{int_div-one}
use Rattle.crn_linear.proofs.Minus.{all_of}
use Rattle.crn_linear.proofs.Unique.{cleared_only}

-- a number over g is 1 / g times the number
over_one : (g : ℕ) (n : ℤ) → 0 < g → g ∣ unsigned_abs n → whole (int_div n (pos g)) ≡ ratio (pos 1) g *ℚ whole n
over_one g n p h =
    let q = int_div n (pos g) in
    let back : pos g *ℤ q ≡ n = div_back n g (div-mul_cancel g h) in
    let cross : q *ℤ pos (g * 1) ≡ (pos 1 *ℤ n) *ℤ pos 1 =
    ap (λ k. q *ℤ pos k) (omega arith) ∙ turned q g ∙ back ∙ ones n in
    ratio_same q (pos 1 *ℤ n) 1 (g * 1) (omega arith) (omega arith) cross
    ∙ sym (ratio-*ℚ (pos 1) g n 1 p (omega arith))
  where
    turned : (q : ℤ) (g : ℕ) → q *ℤ pos g ≡ pos g *ℤ q
    turned q g = ring_ℤ (q ∷ pos g ∷ []) (search z-writes depth 20) (search z-writes depth 20) refl

    ones : (n : ℤ) → n ≡ (pos 1 *ℤ n) *ℤ pos 1
    ones n = ring_ℤ (n ∷ []) {y = (pos 1 *ℤ n) *ℤ pos 1} (search z-writes depth 20) (search z-writes depth 20) refl

over_all : (g : ℕ) (xs : List ℤ) → 0 < g → Divides g xs → wholes (over g xs) ≡ map (λ x. ratio (pos 1) g *ℚ x) (wholes xs)
over_all g [] p h = refl
over_all g (x ∷ xs) p h = ap₂ (λ y ys. y ∷ ys) (over_one g x p h.0) (over_all g xs p h.1)

-- what divides each number over g divides, times g, each number
grown : (d g : ℕ) (xs : List ℤ) → Divides g xs → Divides d (over g xs) → Divides (d * g) xs
grown d g [] h k = tt
grown d g (x ∷ xs) h k =
    (subst (λ n. d * g ∣ n) (size x g h.0) (mul-dvd-mul_right d k.0 g), grown d g xs h.1 k.1)
  where
    size : (x : ℤ) (g : ℕ) → g ∣ unsigned_abs x → unsigned_abs (int_div x (pos g)) * g ≡ unsigned_abs x
    size x g h = ap (λ n. n * g) (unsigned_abs-int_div x g) ∙ div-mul_cancel g h

-- nothing but 1 divides the numbers over their greatest common divisor
no_divisor : (xs : List ℤ) → 0 < common xs → HaveNoDivisor (over (common xs) xs)
no_divisor xs p d h =
    let g = common xs in
    let all : d * g ∣ g = common-greatest (d * g) xs (grown d g xs (Divides-common xs) (Divides-all d (over g xs) h)) in
    eq-one_of_dvd-one (dvd_of_mul-dvd-mul_right d p (subst (λ n. d * g ∣ n) (omega arith) all))

cleared_over : (xs : List ℤ) → 0 < common xs → over (common xs) xs ≡ cleared (wholes xs)
cleared_over xs p = cleared_only (wholes xs) (over (common xs) xs) (record {
  multiple = record {
    factor = ratio (pos 1) (common xs);
    positive = (ratio-<ℚ (pos 0) 1 (pos 1) (common xs) (omega arith) p).1 (omega (arith, ints));
    same = over_all (common xs) xs p (Divides-common xs);
  };
  lowest = inl (no_divisor xs p);
})

ones : (xs : List ℚ) → xs ≡ map (λ x. whole (pos 1) *ℚ x) xs
ones [] = refl
ones (x ∷ xs) = ap₂ (λ y ys. y ∷ ys) (ring_ℚ (x ∷ []) {y = whole (pos 1) *ℚ x} (search q-writes depth 20) (search q-writes depth 20) refl) (ones xs)

zero_size : (z : ℤ) → unsigned_abs z ≡ 0 → z ≡ pos 0
zero_size z h = omega (arith, ints)

zeros : (xs : List ℤ) → common xs ≡ 0 → All (λ n. n ≡ pos 0) xs
zeros xs e = all_of (λ n. n ≡ pos 0) xs (pos 0) (λ i l. zero_size _ (eq-zero_of_zero-dvd (subst (λ k. k ∣ unsigned_abs (get_or xs i (pos 0))) e (each (common xs) xs i l (Divides-common xs)))))
  where
    each : (k : ℕ) (xs : List ℤ) (i : ℕ) → i < length xs → Divides k xs → k ∣ unsigned_abs (get_or xs i (pos 0))
    each k [] i l h = absurd (omega arith)
    each k (x ∷ xs) zero l h = h.0
    each k (x ∷ xs) (suc i) l h = each k xs i (omega arith) h.1

-- numbers that have no common divisor above 1 are their own cleared row
cleared_as_is : (xs : List ℤ) → common xs ≤ 1 → xs ≡ cleared (wholes xs)
cleared_as_is xs h = cleared_only (wholes xs) xs (record {
  multiple = record { factor = whole (pos 1); positive = whole_positive 1 (omega arith); same = ones (wholes xs) };
  lowest = ⊎_elim (λ e. inr (zeros xs e)) (λ p. inl (λ d all.
      let one : common xs ≡ 1 = omega arith in
      eq-one_of_dvd-one (subst (λ n. d ∣ n) one (common-greatest d xs (Divides-all d xs all))))) (eq-zero-or-pos (common xs));
})

-- numbers that have no common divisor above 1 stay as they are over it
as_is : (g : ℕ) (xs : List ℤ) → g ≤ 1 → Divides g xs → over g xs ≡ xs
as_is g [] l h = refl
as_is g (x ∷ xs) l h = ap₂ (λ y ys. y ∷ ys) (part g x l h.0) (as_is g xs l h.1)
  where
    part : (g : ℕ) (x : ℤ) → g ≤ 1 → g ∣ unsigned_abs x → int_div x (pos g) ≡ x
    part zero x l h =
        let none : x ≡ pos 0 = zero_size x (eq-zero_of_zero-dvd h) in
        ap (λ z. int_div z (pos 0)) none ∙ ap pos (zero-div 0) ∙ sym none
    part (suc g) x l h =
        let one : suc g ≡ 1 = omega arith in
        ap (λ n. int_div x (pos n)) one ∙ int_div-one x

pub over-as_is : (xs : List ℤ) → common xs ≤ 1 → over (common xs) xs ≡ xs
over-as_is xs l = as_is (common xs) xs l (Divides-common xs)

-- the cleared row of whole numbers
pub cleared_wholes : (xs : List ℤ) → over (common xs) xs ≡ cleared (wholes xs)
cleared_wholes xs =
    ⊎_elim (λ e. let h : common xs ≤ 1 = omega (arith, e) in over-as_is xs h ∙ cleared_as_is xs h) (λ p. cleared_over xs (omega (arith, p)))
    (eq-zero-or-pos (common xs - 1))

-- small numbers over a divisor are small
pub small_over : (g : ℕ) (xs : List ℤ) → AreSmall xs → AreSmall (over g xs)
small_over g xs h = all_of IsSmall (over g xs) (pos 0) (λ i l.
    let below : i < length xs = rw (← length-over g xs) l in
    subst IsSmall (sym (get_or-over g xs i)) (record { size = quotient_small (get_or xs i (pos 0)) g (h i (pos 0) below).size }))
