-- Quotients of whole numbers that fit are fractions that fit.
use Rattle.std.proofs.Common.{◌≡◌, ℕ, ◌<◌, ◌≤◌, ◌^◌, ◌/◌, ℤ, pos, ◌<ℤ◌, refl, subst, arith, lit<, to_z, of_z, w64}
use Rattle.std.specs.Prelude.{unsigned_abs}
use Rattle.std.proofs.lemmas.Int.{ints}
use Rattle.std.proofs.Math.Nat.{div-le_self}
use Rattle.crn_fraction.specs.Frac.{IsFrac}
use Rattle.crn_fraction.specs.Gcd.{gcd}
use Rattle.crn_fraction.specs.Rational.{whole, ◌/ℚ◌, unsigned_abs-int_div}
use Rattle.crn_fraction.proofs.Products.{/ℚ-one}
use Rattle.crn_fraction.proofs.Values.{IsFrac-ratio, quotient_positive, cast_low}

-- a quotient of two numbers that fit, the second above 0, fits
pub IsFrac-over : (n : ℤ) (d : ℕ) → unsigned_abs n < 2 ^ 63 → d < 2 ^ 63 → 0 < d → IsFrac (whole n /ℚ whole (pos d))
IsFrac-over n d small_n small_d some =
    let below_n : unsigned_abs n / gcd (unsigned_abs n) d ≤ unsigned_abs n = div-le_self (unsigned_abs n) (gcd (unsigned_abs n) d) in
    let below_d : d / gcd (unsigned_abs n) d ≤ d = div-le_self d (gcd (unsigned_abs n) d) in
    let same = unsigned_abs-int_div n (gcd (unsigned_abs n) d) in
    subst IsFrac (quotient_positive n (pos d) n d (omega (arith, ints)) refl refl)
    (IsFrac-ratio n d some (omega (arith, same)) (omega arith))

-- the same, for a divisor that is known to be above 0
pub IsFrac-over_positive : (n d : ℤ) → unsigned_abs n < 2 ^ 63 → unsigned_abs d < 2 ^ 63 → pos 0 <ℤ d → IsFrac (whole n /ℚ whole d)
IsFrac-over_positive n d small_n small_d some =
    let same : pos (unsigned_abs d) ≡ d = omega (arith, ints) in
    let P : ℤ → Type 0 = λ e. IsFrac (whole n /ℚ whole e) in
    subst P same (IsFrac-over n (unsigned_abs d) small_n small_d (omega (arith, ints)))

-- the same, where the numbers were cast
pub IsFrac-cast_over : (n d a b : ℤ) → n ≡ a → d ≡ b → unsigned_abs a < 2 ^ 63 → unsigned_abs b < 2 ^ 63 → pos 0 <ℤ b → IsFrac (whole (to_z w64 (of_z w64 n)) /ℚ whole (to_z w64 (of_z w64 d)))
IsFrac-cast_over n d a b e f small_a small_b some = rw (cast_low n a e small_a, cast_low d b f small_b) (IsFrac-over_positive a b small_a small_b some)

-- a whole number that fits is a fraction that fits
pub IsFrac-whole : (n : ℤ) → unsigned_abs n < 2 ^ 63 → IsFrac (whole n)
IsFrac-whole n small = subst IsFrac (/ℚ-one (whole n)) (IsFrac-over n 1 small (lit< tt) (lit< tt))

-- and so is what was cast, over 1
pub IsFrac-cast_one : (n : ℤ) → unsigned_abs n < 2 ^ 63 → IsFrac (whole (to_z w64 (of_z w64 n)) /ℚ whole (pos 1))
IsFrac-cast_one n small = rw (cast_low n n refl small) (IsFrac-over n 1 small (lit< tt) (lit< tt))

-- which is the number
pub over_cast_one : (n : ℤ) → unsigned_abs n < 2 ^ 63 → whole (to_z w64 (of_z w64 n)) /ℚ whole (pos 1) ≡ whole n
over_cast_one n small = rw (cast_low n n refl small) (/ℚ-one (whole n))
