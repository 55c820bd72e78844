use Rattle.std.proofs.Common.{◌≡◌, true, take, map}
use Rattle.std.specs.List.{list_all}
use Rattle.crn_feasible.specs.Elimination.{fits_ℚ}
use Rattle.crn_feasible.specs.Steps.{kept_of}
use Rattle.crn_feasible.specs.Chosen.{bounds}
use Rattle.crn_feasible.proofs.values.bounds.Given as goal

abbrev pub invariant-loop-row : goal.invariant-loop-row
invariant-loop-row l = record {
  value : l.all.items ≡ bounds l.positive l.v l.values.exact.items (map (kept_of l.rows.columns l.rows.sources) (take l.row-index l.rows.rows.items));
  fit : list_all fits_ℚ l.all.items ≡ true;
}
