-- The cleared row of a form: its positive multiple with whole entries that have no common divisor but 1, or the zero row.
use Rattle.std.specs.Prelude.{◌≡◌, ◌⊎◌, ℕ, ◌/◌, ◌<◌, ◌≤◌, ◌^◌, ℤ, pos, ◌*ℤ◌, unsigned_abs, int_div, List, [], ◌∷◌, map, cond}
use Rattle.std.specs.List.{All, fold}
use Rattle.std.specs.Int.{◌∣◌}
use Rattle.crn_fraction.specs.Gcd.{gcd, lcm}
use Rattle.crn_fraction.specs.Rational.{ℚ, IsLowest, ratio, whole, 0ℚ, ◌*ℚ◌, ◌/ℚ◌, ◌<ℚ◌, is_zero_ℚ}
use Rattle.crn_fraction.specs.Parts.{ratio_lowest}
use Rattle.std.proofs.Common.{ap}
use Rattle.crn_linear.specs.Forms.{wholes}

-- the greatest common divisor of the numbers
abbrev pub common : List ℤ → ℕ
common xs = fold (λ g x. gcd g (unsigned_abs x)) 0 xs

-- each number over a divisor
abbrev pub over : ℕ → List ℤ → List ℤ
over g xs = map (λ x. int_div x (pos g)) xs

-- the row is the form times a number above 0
pub record IsMultiple (form : List ℚ) (row : List ℤ) : Type 0 where
  pub factor : ℚ
  pub positive : 0ℚ <ℚ factor
  pub same : wholes row ≡ map (λ x. factor *ℚ x) form

-- nothing but 1 divides all of the numbers
abbrev pub HaveNoDivisor : List ℤ → Type 0
HaveNoDivisor row = (d : ℕ) → All (λ n. d ∣ unsigned_abs n) row → d ≡ 1

-- the row is the cleared row of the form
pub record IsCleared (form : List ℚ) (row : List ℤ) : Type 0 where
  pub multiple : IsMultiple form row
  pub lowest : HaveNoDivisor row ⊎ All (λ n. n ≡ pos 0) row

-- ---- how it is found
-- the number without its sign
abbrev pub size_ℚ : ℚ → ℚ
size_ℚ x = ratio (pos (unsigned_abs x.num)) x.den

-- the size of the first entry that is not 0, and 1 where there is none
abbrev pub pivot : List ℚ → ℚ
pivot [] = whole (pos 1)
pivot (x ∷ xs) = cond (is_zero_ℚ x) (pivot xs) (size_ℚ x)

-- the least common denominator
abbrev pub common_den : List ℚ → ℕ
common_den xs = fold (λ m x. lcm m x.den) 1 xs

-- a form over its first entry that is not 0, in size
abbrev pub unit_of : List ℚ → List ℚ
unit_of form = map (λ x. x /ℚ pivot form) form

-- the numerator over a multiple of the denominator
abbrev pub numerator_over : ℕ → ℚ → ℤ
numerator_over m x = x.num *ℤ pos (m / x.den)

-- the numerators over the least common denominator
abbrev pub numerators : List ℚ → List ℤ
numerators xs = map (numerator_over (common_den xs)) xs

-- the cleared row: the numerators of the form over its first entry that is not 0
unfoldable pub cleared : List ℚ → List ℤ
cleared form = numerators (unit_of form)

-- ---- sizes
-- both parts are at most 2 ^ 59 in size
pub record IsSmallFrac (q : ℚ) : Type 0 where
  pub num_small : unsigned_abs q.num ≤ 2 ^ 59
  pub den_small : q.den ≤ 2 ^ 59

-- a fraction with a numerator and a denominator of 127 bits
pub record IsWide (num : ℤ) (den : ℕ) : Type 0 where
  pub lowest : IsLowest num den
  pub num_fits : unsigned_abs num < 2 ^ 127
  pub den_fits : den < 2 ^ 127

-- what is kept are the parts of the number
pub wide_parts : (n : ℤ) (d : ℕ) → IsWide n d → ((ratio n d).num ≡ n) × ((ratio n d).den ≡ d)
wide_parts n d w = let e = ratio_lowest n d w.lowest in (ap (λ q. q.num) e, ap (λ q. q.den) e)
