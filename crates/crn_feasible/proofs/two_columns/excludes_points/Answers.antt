use Rattle.crn_feasible.specs.Signs.{first}
use Rattle.crn_feasible.proofs.two_columns.excludes_points.Goals as goal

pub returns-then-is_impossible : goal.returns-then-is_impossible
returns-then-is_impossible c = λ t p all. c.is_impossible.ensures c.if-is_impossible.true (first p) (c.with_row-known.ensures p all (c.loop-index.invariant p all))
