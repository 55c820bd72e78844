-- What the code answers where values are chosen, in the words of elimination.
use Rattle.std.specs.Prelude.{◌≡◌, ℕ, ◌≤◌, ◌^◌, Bool, true, false, ℤ, pos, int_lt, List, [], ◌∷◌, map}
use Rattle.std.specs.List.{filter, list_all}
use Rattle.crn_fraction.specs.Rational.{ℚ, whole}
use Rattle.crn_linear.specs.Rows.{AreSmall}
use Rattle.crn_linear.specs.Cleared.{common_den}
use Rattle.crn_feasible.specs.declared.rows.Ending.{Ending}
use Rattle.crn_feasible.specs.declared.rows.Ending.TheVariants.{Refuted, TooBig, TooManyRows, Memory}
use Rattle.crn_feasible.specs.declared.values.Values.{Values}
use Rattle.crn_feasible.specs.Elimination.{Kept, entry, fits_ℚ, bound, greatest, least, numerators_over}

-- a number is too big, or memory ran out
abbrev pub Misses : Type 0 → Ending → Type 0
Misses P (Refuted c) = ⊥
Misses P TooBig = P
Misses P TooManyRows = ⊥
Misses P Memory = Unit {0}

-- the values, and the same over their least common denominator, all small
pub record IsWritten (s : Values) : Type 0 where
  pub den_is : s.den ≡ common_den s.exact.items
  pub den_small : s.den ≤ 2 ^ 59
  pub tops_are : s.tops.items ≡ numerators_over s.den s.exact.items
  pub tops_small : AreSmall s.tops.items
  pub each : list_all fits_ℚ s.exact.items ≡ true

-- above 0 on the positive side, below it on the other
abbrev pub is_on : (positive : Bool) → ℤ → Bool
is_on true z = int_lt (pos 0) z
is_on false z = int_lt z (pos 0)

-- the rows with an entry on one side in column v
abbrev pub side : (positive : Bool) → (v : ℕ) → List Kept → List Kept
side positive v rows = filter (λ k. is_on positive (entry v k)) rows

-- and the bounds that they set after the values xs
abbrev pub bounds : (positive : Bool) → (v : ℕ) → List ℚ → List Kept → List ℚ
bounds positive v xs rows = map (bound v xs) (side positive v rows)

-- the greatest of bounds, and the least
abbrev pub greatest_of : List ℚ → ℚ
greatest_of [] = whole (pos 0)
greatest_of (q ∷ qs) = greatest q qs

abbrev pub least_of : List ℚ → ℚ
least_of [] = whole (pos 0)
least_of (q ∷ qs) = least q qs
