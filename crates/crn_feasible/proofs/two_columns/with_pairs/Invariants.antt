use Rattle.std.specs.Prelude.{ℤ, List}
use Rattle.std.specs.List.{All}
use Rattle.crn_linear.specs.Rows.{MeetsWhole}
use Rattle.crn_feasible.specs.Signs.{first, Knows}
use Rattle.crn_feasible.proofs.two_columns.with_pairs.Given as goal

abbrev pub invariant-loop-other : goal.invariant-loop-other
invariant-loop-other l = (p : List ℤ) → MeetsWhole l.row p → All (λ r. MeetsWhole r p) l.rows → Knows l.fn.signs (first p) → Knows l.known (first p)
