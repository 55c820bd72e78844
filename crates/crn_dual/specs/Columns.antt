-- The columns of a formula's forms: one for each variable and, where there is one more, one for the constants.
use Rattle.std.specs.Prelude.{ℕ, ◌+◌, nat_lt, Bool, if◌then◌else◌, ◌⊎◌, pos, List, [], ◌∷◌, ◌++◌, length}
use Rattle.crn_fraction.specs.Rational.{ℚ, whole}
use Rattle.crn_formula.specs.Formulas.{Formula, Lin, Add, Sub, Scale, Min, Max, formula_value, IsOver}

-- each form has a column for each of k variables, or each has one more
abbrev pub IsOverVariables : ℕ → Formula → Type 0
IsOverVariables k e = IsOver k e ⊎ IsOver (k + 1) e

-- how many columns the first leaf has
abbrev pub column_count : Formula → ℕ
column_count (Lin form) = length form
column_count (Add a b) = column_count a
column_count (Sub a b) = column_count a
column_count (Scale q a) = column_count a
column_count (Min a b) = column_count a
column_count (Max a b) = column_count a

-- the forms have a column for the constants
abbrev pub has_context : ℕ → Formula → Bool
has_context k e = nat_lt k (column_count e)

-- the point at which forms are taken: in that column the amounts are followed by 1
abbrev pub point : (context : Bool) → List ℚ → List ℚ
point context x = if context then x ++ whole (pos 1) ∷ [] else x

-- the value of a formula over k variables
abbrev pub value_over : ℕ → Formula → List ℚ → ℚ
value_over k e x = formula_value e (point (has_context k e) x)
