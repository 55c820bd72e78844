-- Bounds on products and sums of whole numbers.
use Rattle.std.proofs.Common.{ℕ, ◌+◌, ◌*◌, ◌≤◌, arith}
use Rattle.std.specs.Prelude.{ℤ, ◌+ℤ◌, unsigned_abs}
use Rattle.std.proofs.lemmas.Int.{ints}

-- a product of a number and one with a bound
pub times_le : (a b c : ℕ) → b ≤ c → a * b ≤ a * c
times_le a b c h = grind arith

-- and of one with a bound and a number
pub times_by : (d m n : ℕ) → d ≤ n → d * m ≤ n * m
times_by d m n h = grind arith

-- a number above 0 is at most its square
pub self_square : (m : ℕ) → 1 ≤ m → m ≤ m * m
self_square m h = grind arith

-- the size of a sum is at most the sum of the sizes
pub abs_sum : (s t : ℤ) → unsigned_abs (s +ℤ t) ≤ unsigned_abs s + unsigned_abs t
abs_sum s t = omega (arith, ints)
