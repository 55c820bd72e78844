-- The parts of a whole number.
use Rattle.std.specs.Prelude.{◌≡◌, ℤ, unsigned_abs}
use Rattle.std.proofs.Common.{ap, arith}
use Rattle.crn_fraction.specs.Rational.{whole, only_one_over_one}
use Rattle.crn_fraction.specs.Parts.{ratio_lowest}

-- the numerator of a whole number
pub num-whole : (n : ℤ) → (whole n).num ≡ n
num-whole n = ap (λ q. q.num) (ratio_lowest n 1 (record { positive = omega arith; coprime = only_one_over_one (unsigned_abs n) }))

-- and its denominator
pub den-whole : (n : ℤ) → (whole n).den ≡ 1
den-whole n = ap (λ q. q.den) (ratio_lowest n 1 (record { positive = omega arith; coprime = only_one_over_one (unsigned_abs n) }))
