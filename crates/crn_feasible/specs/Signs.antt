-- What is known of the sign of the first number of a point.
use Rattle.std.specs.Prelude.{IsTrue, ℤ, pos, ◌≤ℤ◌, ◌<ℤ◌, List, slice_index_or}
use Rattle.std.specs.List.{All}
use Rattle.crn_linear.specs.Rows.{Row, MeetsWhole}
use Rattle.crn_feasible.specs.declared.two_columns.Signs.{Signs}

-- the first number of a point
abbrev pub first : List ℤ → ℤ
first p = slice_index_or p 0 (pos 0)

-- the entry of a row in the second column
abbrev pub second : Row → ℤ
second r = slice_index_or r.entries 1 (pos 0)

-- these are signs of a number
pub record Knows (s : Signs) (x : ℤ) : Type 0 where
  pub at_least : IsTrue s.at_least → pos 0 ≤ℤ x
  pub above : IsTrue s.above → pos 0 <ℤ x
  pub at_most : IsTrue s.at_most → x ≤ℤ pos 0
  pub below : IsTrue s.below → x <ℤ pos 0

-- where they are signs of the first number of a point that meets the rows, so are the others
abbrev pub Follows : List Row → (before after : Signs) → Type 0
Follows rows before after = (p : List ℤ) → All (λ r. MeetsWhole r p) rows → Knows before (first p) → Knows after (first p)
