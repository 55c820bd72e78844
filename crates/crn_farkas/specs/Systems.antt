-- Systems of rows, their points, and certificates that they have none.
use Rattle.std.specs.Prelude.{◌≡◌, ℕ, ◌<◌, false, IsTrue, ℤ, pos, ◌≤ℤ◌, ◌<ℤ◌, List, [], length, map, slice_index_or}
use Rattle.std.specs.List.{All}
use Rattle.crn_fraction.specs.Rational.{ℚ}
use Rattle.crn_linear.specs.Rows.{Row, dot, Meets, MeetsWhole}

-- a number of columns, and rows
pub record System : Type 0 where
  pub columns : ℕ
  pub rows : List Row

-- each row has an entry for each column, and no more
pub record IsRectangular (s : System) : Type 0 where
  pub lengths : All (λ r. length r.entries ≡ s.columns) s.rows

-- a point meets each row
abbrev pub IsPoint : System → List ℚ → Type 0
IsPoint s x = All (λ r. Meets r x) s.rows

-- a point with whole numbers does
abbrev pub IsWholePoint : System → List ℤ → Type 0
IsWholePoint s p = All (λ r. MeetsWhole r p) s.rows

-- a point of the system: a whole number for each column, and it meets each row
pub record IsPointOf (s : System) (p : List ℤ) : Type 0 where
  pub long : length p ≡ s.columns
  pub meets : IsWholePoint s p

-- there is such a point
abbrev pub HasPoint : System → Type 0
HasPoint s = (p : List ℤ) × IsPointOf s p

-- no point meets each row
pub record HasNoPoint (s : System) : Type 0 where
  pub rational : (x : List ℚ) → ¬ IsPoint s x
  pub whole : (p : List ℤ) → ¬ IsWholePoint s p

-- no entries, and not strict
abbrev pub no_row : Row
no_row = record { entries = []; strict = false }

-- what the rows have in column v
abbrev pub column : ℕ → List Row → List ℤ
column v rows = map (λ r. slice_index_or r.entries v (pos 0)) rows

-- some strict row has a positive multiplier
abbrev pub HasStrict : List Row → List ℤ → Type 0
HasStrict rows c = (i : ℕ) × IsTrue (slice_index_or rows i no_row).strict × (pos 0 <ℤ slice_index_or c i (pos 0))

-- a certificate of infeasibility: one nonnegative multiplier for each row, such that the multiples of the rows add up to the
-- zero vector and some strict row has a positive multiplier
pub record IsCertificate (s : System) (c : List ℤ) : Type 0 where
  pub one_each : length c ≡ length s.rows
  pub nonnegative : All (λ m. pos 0 ≤ℤ m) c
  pub zero_sum : (v : ℕ) → v < s.columns → dot c (column v s.rows) ≡ pos 0
  pub some_strict : HasStrict s.rows c
