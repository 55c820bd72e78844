-- The least common multiple: both numbers divide it, and it divides whatever both divide.
use Rattle.std.proofs.Common.{◌≡◌, ℕ, zero, suc, ◌*◌, ◌/◌, ◌<◌, sym, ap, ◌∙◌, subst, arith}
use Rattle.std.specs.Int.{◌∣◌}
use Rattle.std.proofs.Math.Nat.{dvd-mul_right, dvd-mul_left, mul-dvd-mul_left, dvd_of_mul-dvd-mul_right, div-mul_cancel}
use Rattle.crn_fraction.specs.Gcd.{gcd, lcm, gcd-pos, left-over_gcd, right-over_gcd, right-over_gcd_pos, IsCoprime-over_gcd}
use Rattle.crn_fraction.proofs.Lowest.{dvd_other}
use Rattle.crn_fraction.proofs.Ratios.{times_pos}

regroup : (u g v : ℕ) → (u * g) * v ≡ u * (v * g)
regroup u g v = omega arith

-- the first number times what the greatest common divisor leaves of the second
lcm-other : (a b : ℕ) → a * (b / gcd a b) ≡ lcm a b
lcm-other a b =
    ap (λ n. n * (b / gcd a b)) (sym (left-over_gcd a b)) ∙ regroup (a / gcd a b) (gcd a b) (b / gcd a b) ∙ ap (λ n. (a / gcd a b) * n) (right-over_gcd a b)

-- the first divides it
pub left-dvd-lcm : (a b : ℕ) → a ∣ lcm a b
left-dvd-lcm a b = subst (λ n. a ∣ n) (lcm-other a b) (dvd-mul_right a (b / gcd a b))

-- and so does the second
pub right-dvd-lcm : (a b : ℕ) → b ∣ lcm a b
right-dvd-lcm a b = dvd-mul_left b (a / gcd a b)

-- and it is positive
pub lcm-positive : (a b : ℕ) → 0 < a → 0 < b → 0 < lcm a b
lcm-positive a b p q = subst (λ n. 0 < n) (lcm-other a b) (times_pos a (b / gcd a b) p (right-over_gcd_pos a b q))

shared : (u v s g : ℕ) → s * (u * g) ≡ (s * u) * g
shared u v s g = omega arith

least-positive : (a b n : ℕ) → 0 < b → a ∣ n → b ∣ n → lcm a b ∣ n
least-positive a b n q h k =
    let g = gcd a b in
    let u = a / g in
    let v = b / g in
    let s = n / a in
    let whole_n : s * a ≡ n = div-mul_cancel a h in
    let split : n ≡ (s * u) * g = sym whole_n ∙ ap (λ m. s * m) (sym (left-over_gcd a b)) ∙ shared u v s g in
    let below : v * g ∣ (s * u) * g = subst (λ m. m ∣ (s * u) * g) (sym (right-over_gcd a b)) (subst (λ m. b ∣ m) split k) in
    let part : v ∣ s * u = dvd_of_mul-dvd-mul_right v (gcd-pos a b q) below in
    let turned : v ∣ u * s = subst (λ m. v ∣ m) (turn s u) part in
    let last : v ∣ s = dvd_other v u s (IsCoprime-over_gcd a b q) turned in
    subst (λ m. m ∣ n) (lcm-other a b) (subst (λ m. a * v ∣ m) (turn a s ∙ whole_n) (mul-dvd-mul_left v a last))
  where
    turn : (x y : ℕ) → x * y ≡ y * x
    turn x y = omega arith

no_times : (n : ℕ) → n * 0 ≡ 0
no_times n = omega arith

-- whatever both divide it divides
pub lcm-least : (a b n : ℕ) → a ∣ n → b ∣ n → lcm a b ∣ n
lcm-least a zero n h k = subst (λ m. m ∣ n) (sym (no_times (a / gcd a 0))) k
lcm-least a (suc b) n h k = least-positive a (suc b) n (omega arith) h k
