-- Sums and products that stand in lowest terms as they are computed.
use Rattle.std.proofs.Common.{◌≡◌, ◌⊎◌, inl, inr, ⊎_elim, ℕ, zero, suc, ◌+◌, ◌*◌, ◌/◌, ◌<◌, ◌≤◌, [], ◌∷◌, refl, sym, ap, ap₂, ◌∙◌, subst, arith}
use Rattle.std.specs.Prelude.{ℤ, pos, ◌+ℤ◌, ◌*ℤ◌, unsigned_abs}
use Rattle.std.specs.Int.{◌∣◌}
use Rattle.std.proofs.Math.IntN.{+ℤ_comm}
use Rattle.std.proofs.lemmas.Bool.{cases_eq}
use Rattle.std.proofs.lemmas.Int.{ints, unsigned_abs-mul}
use Rattle.std.proofs.lemmas.Nat.Gcd.{dvd_refl, dvd_trans, dvd-zero, le_of_dvd}
use Rattle.std.proofs.Math.Nat.{dvd-add, dvd-add_iff_left, dvd-add_iff_right, dvd-mul_right, dvd-mul_left, mul_comm}
use Rattle.crn_fraction.specs.Gcd.{gcd, gcd-pos, IsCoprime, IsCoprime-over_gcd, IsCoprime-of_gcd, left-over_gcd, right-over_gcd}
use Rattle.crn_fraction.proofs.Scaled.{dvd_of_coprime}
use Rattle.crn_fraction.specs.Rational.{ℚ, IsLowest, ratio, whole, ◌+ℚ◌, ◌*ℚ◌, unsigned_abs-int_div}
use Rattle.crn_fraction.specs.Parts.{ratio_self, ratio_lowest}
use Rattle.crn_fraction.proofs.Wholes.{num-whole, den-whole}
use Rattle.crn_fraction.proofs.Integers.{ring_ℤ, z-writes}
use Rattle.crn_fraction.proofs.Core.{ratio_same, ratio_cross, num-ratio, den-ratio}
use Rattle.crn_fraction.proofs.Ratios.{times_pos, ratio-*ℚ, over-+ℚ}

-- ---- numbers with nothing but 1 in common
pub IsCoprime-swap : (a b : ℕ) → IsCoprime a b → IsCoprime b a
IsCoprime-swap a b c = record { only_one = λ k h l. c.only_one k l h }

-- divisors of two such numbers are such numbers
pub IsCoprime-divisors : (a b m n : ℕ) → m ∣ a → n ∣ b → IsCoprime a b → IsCoprime m n
IsCoprime-divisors a b m n f g c = record { only_one = λ k h l. c.only_one k (dvd_trans k h f) (dvd_trans k l g) }

-- a divisor of a product that has nothing in common with one factor divides the other, 0 too
pub dvd_other : (d a e : ℕ) → IsCoprime a d → d ∣ a * e → d ∣ e
dvd_other d a zero c h = dvd-zero d
dvd_other d a (suc e) c h = dvd_of_coprime d a (suc e) (omega arith) c h

-- a product with nothing in common with a number, where neither factor has
pub IsCoprime-mul_right : (a m n : ℕ) → IsCoprime a m → IsCoprime a n → IsCoprime a (m * n)
IsCoprime-mul_right a m n c e = record {
  only_one = λ k h l.
      let apart : IsCoprime m k = record { only_one = λ j x y. c.only_one j (dvd_trans j y h) x } in
      e.only_one k h (dvd_other k m n apart l);
}

-- and on the other side
pub IsCoprime-mul_left : (m n b : ℕ) → IsCoprime m b → IsCoprime n b → IsCoprime (m * n) b
IsCoprime-mul_left m n b c e = IsCoprime-swap b (m * n) (IsCoprime-mul_right b m n (IsCoprime-swap m b c) (IsCoprime-swap n b e))

-- ---- the parts of a ratio
num_size : (n : ℤ) (d : ℕ) → 0 < d → unsigned_abs (ratio n d).num ≡ unsigned_abs n / gcd (unsigned_abs n) d
num_size n d p = ap unsigned_abs (num-ratio n d p) ∙ unsigned_abs-int_div n (gcd (unsigned_abs n) d)

-- the numerator of a ratio divides what it came from
pub num-divides : (n : ℤ) (d : ℕ) → 0 < d → unsigned_abs (ratio n d).num ∣ unsigned_abs n
num-divides n d p =
    let g = gcd (unsigned_abs n) d in
    subst (λ m. m ∣ unsigned_abs n) (sym (num_size n d p))
    (subst (λ m. (unsigned_abs n / g) ∣ m) (left-over_gcd (unsigned_abs n) d) (dvd-mul_right (unsigned_abs n / g) g))

-- and so does the denominator
pub den-divides : (n : ℤ) (d : ℕ) → 0 < d → (ratio n d).den ∣ d
den-divides n d p =
    let g = gcd (unsigned_abs n) d in
    subst (λ m. m ∣ d) (sym (den-ratio n d p))
    (subst (λ m. (d / g) ∣ m) (right-over_gcd (unsigned_abs n) d) (dvd-mul_right (d / g) g))

shrinks : (a g m : ℕ) → m * g ≡ a → 0 < g → m ≤ a
shrinks a g m e p = grind arith

-- the parts are no greater than what they come from
pub num-shrinks : (n : ℤ) (d : ℕ) → 0 < d → unsigned_abs (ratio n d).num ≤ unsigned_abs n
num-shrinks n d p =
    rw (num_size n d p) (shrinks (unsigned_abs n) (gcd (unsigned_abs n) d) _ (left-over_gcd (unsigned_abs n) d) (gcd-pos (unsigned_abs n) d p))

-- and the denominator is no greater
pub den-shrinks : (n : ℤ) (d : ℕ) → 0 < d → (ratio n d).den ≤ d
den-shrinks n d p = le_of_dvd p (den-divides n d p)

one_times : (e : ℕ) → e ≡ 1 * e
one_times e = omega arith

-- ---- products: each numerator first loses what it has in common with the other denominator
module _ (a b : ℚ) where
  -- the products of the parts that are left are in lowest terms
  pub product_lowest : IsLowest ((ratio a.num b.den).num *ℤ (ratio b.num a.den).num) ((ratio a.num b.den).den * (ratio b.num a.den).den)
  product_lowest =
      let p = ratio a.num b.den in
      let q = ratio b.num a.den in
      let x = num-divides a.num b.den b.lowest.positive in
      let y = num-divides b.num a.den a.lowest.positive in
      let u = den-divides a.num b.den b.lowest.positive in
      let v = den-divides b.num a.den a.lowest.positive in
      record {
        positive = times_pos p.den q.den p.lowest.positive q.lowest.positive;
        coprime = rw (unsigned_abs-mul p.num q.num)
            (IsCoprime-mul_left (unsigned_abs p.num) (unsigned_abs q.num) (p.den * q.den)
            (IsCoprime-mul_right (unsigned_abs p.num) p.den q.den p.lowest.coprime (IsCoprime-divisors _ _ _ _ x v a.lowest.coprime))
            (IsCoprime-mul_right (unsigned_abs q.num) p.den q.den (IsCoprime-divisors _ _ _ _ y u b.lowest.coprime) q.lowest.coprime));
      }

  -- and they are those of the product
  pub product_crossed : ratio ((ratio a.num b.den).num *ℤ (ratio b.num a.den).num) ((ratio a.num b.den).den * (ratio b.num a.den).den) ≡ a *ℚ b
  unfolding ◌*ℚ◌
  product_crossed =
      ratio-*ℚ a.num b.den b.num a.den b.lowest.positive a.lowest.positive ∙ ap (ratio (a.num *ℤ b.num)) (mul_comm b.den a.den)

-- ---- sums: over the least common denominator only the shared divisor may be left to cancel
dvd_term : (k x y t : ℕ) → (t ≡ x + y) ⊎ ((x ≡ t + y) ⊎ (y ≡ t + x)) → k ∣ t → k ∣ y → k ∣ x
dvd_term k x y t (inl e) h l = (dvd-add_iff_left k l).1 (subst (λ n. k ∣ n) e h)
dvd_term k x y t (inr (inl e)) h l = subst (λ n. k ∣ n) (sym e) (dvd-add k h l)
dvd_term k x y t (inr (inr e)) h l = (dvd-add_iff_right k h).1 (subst (λ n. k ∣ n) e l)

size_cases : (x y : ℤ) → (unsigned_abs (x +ℤ y) ≡ unsigned_abs x + unsigned_abs y)
    ⊎ ((unsigned_abs x ≡ unsigned_abs (x +ℤ y) + unsigned_abs y) ⊎ (unsigned_abs y ≡ unsigned_abs (x +ℤ y) + unsigned_abs x))
size_cases x y =
    ⊎_elim (λ h. inl h) (λ no. ⊎_elim (λ h. inr (inl h)) (λ nor. inr (inr (omega (arith, ints))))
    (cases_eq (unsigned_abs x) (unsigned_abs (x +ℤ y) + unsigned_abs y)))
    (cases_eq (unsigned_abs (x +ℤ y)) (unsigned_abs x + unsigned_abs y))

-- a divisor of a sum and of its second term divides the first
pub dvd_first : (k : ℕ) (x y : ℤ) → k ∣ unsigned_abs (x +ℤ y) → k ∣ unsigned_abs y → k ∣ unsigned_abs x
dvd_first k x y h l = dvd_term k (unsigned_abs x) (unsigned_abs y) (unsigned_abs (x +ℤ y)) (size_cases x y) h l

-- a sum of products over `u` and `v` shares nothing with `u`
apart_left : (a c : ℤ) (u v m : ℕ) → IsCoprime u v → IsCoprime (unsigned_abs a) u → m ∣ unsigned_abs (a *ℤ pos v +ℤ c *ℤ pos u) → IsCoprime m u
apart_left a c u v m p q h = record {
  only_one = λ k x y.
      let second : k ∣ unsigned_abs (c *ℤ pos u) = rw (unsigned_abs-mul c (pos u)) (dvd_trans k y (dvd-mul_left u (unsigned_abs c))) in
      let first : k ∣ unsigned_abs (a *ℤ pos v) = dvd_first k (a *ℤ pos v) (c *ℤ pos u) (dvd_trans k x h) second in
      let sizes : unsigned_abs (a *ℤ pos v) ≡ v * unsigned_abs a = unsigned_abs-mul a (pos v) ∙ mul_comm (unsigned_abs a) v in
      let apart : IsCoprime v k = record { only_one = λ j w z. p.only_one j (dvd_trans j z y) w } in
      q.only_one k (dvd_other k v (unsigned_abs a) apart (subst (λ n. k ∣ n) sizes first)) y;
}

apart_right : (a c : ℤ) (u v m : ℕ) → IsCoprime u v → IsCoprime (unsigned_abs c) v → m ∣ unsigned_abs (a *ℤ pos v +ℤ c *ℤ pos u) → IsCoprime m v
apart_right a c u v m p q h =
    apart_left c a v u m (IsCoprime-swap u v p) q (subst (λ t. m ∣ unsigned_abs t) (+ℤ_comm (a *ℤ pos v) (c *ℤ pos u)) h)

-- `g` divides both denominators, and `u` and `v` are what is left of them
module _ (a b : ℚ) (g u v : ℕ) (t : ℤ) (p : 0 < g) (e : u * g ≡ a.den) (f : v * g ≡ b.den) (c : IsCoprime u v) (s : t ≡ a.num *ℤ pos v +ℤ b.num *ℤ pos u) where
  part_positive : (m n : ℕ) → m * g ≡ n → 0 < n → 0 < m
  part_positive zero n h l = absurd (omega (arith, h))
  part_positive (suc m) n h l = omega arith

  -- what is left of the sum is in lowest terms
  pub sum_lowest : IsLowest (ratio t g).num (u * (v * (ratio t g).den))
  sum_lowest =
      let q = ratio t g in
      let size = unsigned_abs q.num in
      let x : size ∣ unsigned_abs (a.num *ℤ pos v +ℤ b.num *ℤ pos u) = subst (λ z. size ∣ unsigned_abs z) s (num-divides t g p) in
      let left : IsCoprime (unsigned_abs a.num) u =
      IsCoprime-divisors (unsigned_abs a.num) a.den (unsigned_abs a.num) u (dvd_refl (unsigned_abs a.num)) (subst (λ n. u ∣ n) e (dvd-mul_right u g)) a.lowest.coprime in
      let right : IsCoprime (unsigned_abs b.num) v =
      IsCoprime-divisors (unsigned_abs b.num) b.den (unsigned_abs b.num) v (dvd_refl (unsigned_abs b.num)) (subst (λ n. v ∣ n) f (dvd-mul_right v g)) b.lowest.coprime in
      let pu = part_positive u a.den e a.lowest.positive in
      let pv = part_positive v b.den f b.lowest.positive in
      record {
        positive = times_pos u (v * q.den) pu (times_pos v q.den pv q.lowest.positive);
        coprime = IsCoprime-mul_right size u (v * q.den) (apart_left a.num b.num u v size c left x)
            (IsCoprime-mul_right size v q.den (apart_right a.num b.num u v size c right x) q.lowest.coprime);
      }

  cross_sums : (n : ℤ) (d : ℕ) → n *ℤ pos g ≡ t *ℤ pos d
      → n *ℤ pos (a.den * b.den) ≡ (a.num *ℤ pos b.den +ℤ b.num *ℤ pos a.den) *ℤ pos (u * (v * d))
  cross_sums n d h =
      let one : n *ℤ ((pos u *ℤ pos g) *ℤ (pos v *ℤ pos g)) ≡ (n *ℤ pos g) *ℤ (pos u *ℤ pos v *ℤ pos g) =
      ring_ℤ (n ∷ t ∷ a.num ∷ b.num ∷ pos g ∷ pos u ∷ pos v ∷ pos d ∷ []) (search z-writes depth 20) (search z-writes depth 20) refl in
      let two : ((a.num *ℤ pos v +ℤ b.num *ℤ pos u) *ℤ pos d) *ℤ (pos u *ℤ pos v *ℤ pos g)
      ≡ (a.num *ℤ (pos v *ℤ pos g) +ℤ b.num *ℤ (pos u *ℤ pos g)) *ℤ (pos u *ℤ (pos v *ℤ pos d)) =
      ring_ℤ (n ∷ t ∷ a.num ∷ b.num ∷ pos g ∷ pos u ∷ pos v ∷ pos d ∷ []) (search z-writes depth 20) (search z-writes depth 20) refl in
      rw (← e, ← f) (one ∙ ap (λ z. z *ℤ (pos u *ℤ pos v *ℤ pos g)) (h ∙ ap (λ z. z *ℤ pos d) s) ∙ two)

  -- and it is the sum
  pub sum_shared : ratio (ratio t g).num (u * (v * (ratio t g).den)) ≡ a +ℚ b
  unfolding ◌+ℚ◌
  sum_shared =
      let q = ratio t g in
      ratio_same q.num _ (u * (v * q.den)) (a.den * b.den) sum_lowest.positive (times_pos a.den b.den a.lowest.positive b.lowest.positive)
      (cross_sums q.num q.den (ratio_cross t g p))

-- ---- what the code computes is in lowest terms, and is the number
pub lowest_by_one : (n : ℤ) (d : ℕ) → 0 < d → gcd (unsigned_abs n) d ≡ 1 → ((ratio n d).num ≡ n) × ((ratio n d).den ≡ d)
lowest_by_one n d p h =
    let e = ratio_lowest n d (record { positive = p; coprime = IsCoprime-of_gcd (unsigned_abs n) d h }) in
    (ap (λ q. q.num) e, ap (λ q. q.den) e)

-- a ratio's own parts are in lowest terms, and are the ratio
pub reduced_parts : (x : ℤ) (k : ℕ) (n : ℤ) (d : ℕ) → n ≡ (ratio x k).num → d ≡ (ratio x k).den → IsLowest n d × (ratio n d ≡ ratio x k)
reduced_parts x k n d e f = (rw (e, f) (ratio x k).lowest, ap₂ ratio e f ∙ ratio_self (ratio x k))

-- a sum over one denominator
pub sum_same : (a b : ℚ) (t : ℤ) (k : ℕ) → a.den ≡ b.den → t ≡ a.num +ℤ b.num → k ≡ a.den → ratio t k ≡ a +ℚ b
sum_same a b t k e f g =
    ap₂ ratio f g ∙ sym (over-+ℚ a.num a.den b.num a.lowest.positive)
    ∙ ap₂ (λ x y. x +ℚ y) (ratio_self a) (ap (ratio b.num) e ∙ ratio_self b)

-- a sum over the least common denominator
pub sum_across : (a b : ℚ) (g u v : ℕ) (t n : ℤ) (r e : ℕ) → g ≡ gcd a.den b.den → u ≡ a.den / g → v ≡ b.den / g
    → t ≡ a.num *ℤ pos v +ℤ b.num *ℤ pos u → n ≡ (ratio t g).num → r ≡ (ratio t g).den → e ≡ u * (v * r)
    → IsLowest n e × (ratio n e ≡ a +ℚ b)
sum_across a b g u v t n r e hg hu hv ht hn hr he =
    let p : 0 < g = rw hg (gcd-pos a.den b.den b.lowest.positive) in
    let eu : u * g ≡ a.den = rw (hu, hg) (left-over_gcd a.den b.den) in
    let ev : v * g ≡ b.den = rw (hv, hg) (right-over_gcd a.den b.den) in
    let c : IsCoprime u v = rw (hu, hv, hg) (IsCoprime-over_gcd a.den b.den b.lowest.positive) in
    let ee : e ≡ u * (v * (ratio t g).den) = he ∙ ap (λ m. u * (v * m)) hr in
    (rw (hn, ee) (sum_lowest a b g u v t p eu ev c ht), rw (hn, ee) (sum_shared a b g u v t p eu ev c ht))

-- a product whose factors are reduced first
pub product_across : (a b : ℚ) (n m : ℤ) (d e : ℕ) (x : ℤ) (y : ℕ) → n ≡ (ratio a.num b.den).num → d ≡ (ratio a.num b.den).den
    → m ≡ (ratio b.num a.den).num → e ≡ (ratio b.num a.den).den → x ≡ n *ℤ m → y ≡ d * e → IsLowest x y × (ratio x y ≡ a *ℚ b)
product_across a b n m d e x y hn hd hm he hx hy =
    (rw (hx, hy, hn, hd, hm, he) (product_lowest a b), rw (hx, hy, hn, hd, hm, he) (product_crossed a b))

-- a product with a whole number
pub times_across : (a : ℚ) (k m : ℤ) (e : ℕ) (x : ℤ) (y : ℕ) → m ≡ (ratio k a.den).num → e ≡ (ratio k a.den).den → x ≡ a.num *ℤ m → y ≡ e
    → IsLowest x y × (ratio x y ≡ a *ℚ whole k)
times_across a k m e x y hm he hx hy =
    product_across a (whole k) a.num m 1 e x y
    (sym (ap (λ d. (ratio a.num d).num) (den-whole k) ∙ num-whole a.num))
    (sym (ap (λ d. (ratio a.num d).den) (den-whole k) ∙ den-whole a.num))
    (hm ∙ sym (ap (λ n. (ratio n a.den).num) (num-whole k)))
    (he ∙ sym (ap (λ n. (ratio n a.den).den) (num-whole k)))
    hx (hy ∙ one_times e)
