-- The least common denominator of a list.
use Rattle.std.proofs.Common.{◌≡◌, ℕ, zero, suc, ◌*◌, ◌<◌, ◌≤◌, List, [], ◌∷◌, length, take, refl, subst, arith}
use Rattle.std.specs.List.{fold}
use Rattle.std.specs.Int.{◌∣◌}
use Rattle.std.proofs.lemmas.Nat.Gcd.{dvd_refl, dvd_trans, le_of_dvd}
use Rattle.std.proofs.Math.Nat.{dvd-mul_right}
use Rattle.crn_fraction.specs.Gcd.{lcm}
use Rattle.crn_fraction.specs.Rational.{ℚ}
use Rattle.crn_fraction.proofs.LeastMultiple.{left-dvd-lcm, right-dvd-lcm, lcm-positive, lcm-least}
use Rattle.crn_linear.specs.Forms.{entry_of}
use Rattle.crn_linear.specs.Cleared.{common_den}

-- ---- of a list, from a number on
abbrev from : ℕ → List ℚ → ℕ
from m xs = fold (λ n x. lcm n x.den) m xs

from-dvd : (m : ℕ) (xs : List ℚ) → m ∣ from m xs
from-dvd m [] = dvd_refl m
from-dvd m (x ∷ xs) = dvd_trans m (left-dvd-lcm m x.den) (from-dvd (lcm m x.den) xs)

den-dvd-from : (m : ℕ) (xs : List ℚ) (i : ℕ) → i < length xs → (entry_of xs i).den ∣ from m xs
den-dvd-from m [] i h = absurd (omega arith)
den-dvd-from m (x ∷ xs) zero h = dvd_trans x.den (right-dvd-lcm m x.den) (from-dvd (lcm m x.den) xs)
den-dvd-from m (x ∷ xs) (suc i) h = den-dvd-from (lcm m x.den) xs i (omega arith)

take-dvd-from : (m : ℕ) (xs : List ℚ) (k : ℕ) → from m (take k xs) ∣ from m xs
take-dvd-from m xs zero = from-dvd m xs
take-dvd-from m [] (suc k) = dvd_refl m
take-dvd-from m (x ∷ xs) (suc k) = take-dvd-from (lcm m x.den) xs k

from-positive : (m : ℕ) (xs : List ℚ) → 0 < m → 0 < from m xs
from-positive m [] p = p
from-positive m (x ∷ xs) p = from-positive (lcm m x.den) xs (lcm-positive m x.den p x.lowest.positive)

from-least : (m : ℕ) (xs : List ℚ) (n : ℕ) → m ∣ n → ((i : ℕ) → i < length xs → (entry_of xs i).den ∣ n) → from m xs ∣ n
from-least m [] n h k = h
from-least m (x ∷ xs) n h k =
    from-least (lcm m x.den) xs n (lcm-least m x.den n h (k 0 (omega arith))) (λ i l. k (suc i) (omega arith))

from-more : (m : ℕ) (xs : List ℚ) (i : ℕ) → i < length xs → from m (take (suc i) xs) ≡ lcm (from m (take i xs)) (entry_of xs i).den
from-more m [] i h = absurd (omega arith)
from-more m (x ∷ xs) zero h = refl
from-more m (x ∷ xs) (suc i) h = from-more (lcm m x.den) xs i (omega arith)

-- ---- the least common denominator
-- each denominator divides it
pub den-dvd-common_den : (xs : List ℚ) (i : ℕ) → i < length xs → (entry_of xs i).den ∣ common_den xs
den-dvd-common_den xs i h = den-dvd-from 1 xs i h

-- and so does that of the first few
pub take-dvd-common_den : (xs : List ℚ) (k : ℕ) → common_den (take k xs) ∣ common_den xs
take-dvd-common_den xs k = take-dvd-from 1 xs k

-- it is positive
pub common_den-positive : (xs : List ℚ) → 0 < common_den xs
common_den-positive xs = from-positive 1 xs (omega arith)

-- whatever all of them divide it divides
pub common_den-least : (xs : List ℚ) (n : ℕ) → ((i : ℕ) → i < length xs → (entry_of xs i).den ∣ n) → common_den xs ∣ n
common_den-least xs n k = from-least 1 xs n (subst (λ m. 1 ∣ m) (just n) (dvd-mul_right 1 n)) k
  where
    just : (n : ℕ) → 1 * n ≡ n
    just n = omega arith

-- that of one more
pub common_den-more : (xs : List ℚ) (i : ℕ) → i < length xs → common_den (take (suc i) xs) ≡ lcm (common_den (take i xs)) (entry_of xs i).den
common_den-more xs i h = from-more 1 xs i h

-- and so it is no less than that of the first few
pub common_den-take : (xs : List ℚ) (k : ℕ) → common_den (take k xs) ≤ common_den xs
common_den-take xs k = le_of_dvd (common_den-positive xs) (take-dvd-common_den xs k)
