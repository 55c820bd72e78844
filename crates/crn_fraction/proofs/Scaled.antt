-- The greatest common divisor grows with a common factor, and what has nothing in common with one factor of a product divides the other.
use Rattle.std.specs.Prelude.{◌≡◌, ℕ, ◌+◌, ◌*◌, ◌/◌, ◌%◌, ◌<◌, ◌≤◌}
use Rattle.std.proofs.Common.{zero, suc, ap, subst, arith, mod-lt}
use Rattle.std.specs.Int.{IsGcd, ◌∣◌}
use Rattle.std.proofs.Math.Nat.{dvd-mul_right, div-add-mod'}
use Rattle.std.proofs.lemmas.Nat.{mod-mul-add}
use Rattle.std.proofs.lemmas.Nat.Gcd.{IsGcd-from_zero, IsGcd-from_mod}
use Rattle.crn_fraction.specs.Gcd.{euclid, gcd, smaller, IsGcd-gcd, IsCoprime}

times_below : (a b k : ℕ) → 0 < k → a < b → a * k < b * k
times_below a b k p h = grind arith

scaled_mod : (a b k : ℕ) → 0 < k → (a * k) % (suc b * k) ≡ (a % suc b) * k
scaled_mod a b k h =
    let below : (a % suc b) * k < suc b * k = times_below (a % suc b) (suc b) k h (mod-lt a (omega arith)) in
    let split : a * k ≡ (a / suc b) * (suc b * k) + (a % suc b) * k =
    omega (arith, ap (λ n. n * k) (div-add-mod' a (suc b))) in
    rw split (mod-mul-add (a / suc b) (suc b * k) ((a % suc b) * k) below)

IsGcd-scaled_euclid : (fuel a b k : ℕ) → 0 < k → b ≤ fuel → IsGcd (a * k) (b * k) (euclid fuel a b * k)
IsGcd-scaled_euclid fuel a zero k p h = IsGcd-from_zero (a * k) (0 * k) (omega arith)
IsGcd-scaled_euclid zero a (suc b) k p h = absurd (omega arith)
IsGcd-scaled_euclid (suc fuel) a (suc b) k p h =
    IsGcd-from_mod (a * k) (suc b * k) _
    (rw (scaled_mod a b k p) (IsGcd-scaled_euclid fuel (suc b) (a % suc b) k p (smaller fuel a b h)))

-- what two numbers have in common grows with a common factor
pub IsGcd-scaled : (a b k : ℕ) → 0 < k → IsGcd (a * k) (b * k) (gcd a b * k)
unfolding gcd
IsGcd-scaled a b k p = IsGcd-scaled_euclid b a b k p (omega arith)

times_dvd : (d e : ℕ) → d ∣ d * e
times_dvd d e = dvd-mul_right d e

-- a divisor of a product that has nothing in common with one factor divides the other
pub dvd_of_coprime : (d a e : ℕ) → 0 < e → IsCoprime a d → d ∣ a * e → d ∣ e
dvd_of_coprime d a e p c h =
    let g = IsGcd-gcd a d in
    let one : gcd a d ≡ 1 = c.only_one (gcd a d) g.0 g.1 in
    let all : d ∣ gcd a d * e = (IsGcd-scaled a d e p).2 d h (times_dvd d e) in
    let just : gcd a d * e ≡ e = rw one (omega arith) in
    subst (λ n. d ∣ n) just all
