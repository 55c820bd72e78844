use Rattle.std.specs.Prelude.{ℤ, List}
use Rattle.std.specs.List.{All}
use Rattle.crn_linear.specs.Rows.{MeetsWhole}
use Rattle.crn_feasible.specs.Signs.{first, Knows}
use Rattle.crn_feasible.proofs.two_columns.excludes_points.Given as goal

abbrev pub invariant-loop-index : goal.invariant-loop-index
invariant-loop-index l = (p : List ℤ) → All (λ r. MeetsWhole r p) l.rows → Knows l.known (first p)
