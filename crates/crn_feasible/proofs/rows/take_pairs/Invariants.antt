use Rattle.std.proofs.Common.{map}
use Rattle.crn_feasible.specs.Elimination.{negatives}
use Rattle.crn_feasible.specs.Steps.{kept_of, list_of, IsList, HasShape}
use Rattle.crn_feasible.proofs.Turns.{Taken}
use Rattle.crn_feasible.proofs.Parts.{pairs_part}
use Rattle.crn_feasible.proofs.rows.take_pairs.Given as goal

abbrev pub invariant-loop-row : goal.invariant-loop-row
invariant-loop-row l = record {
  taken : Taken (list_of l.initial.rest) (pairs_part l.initial.rest.columns l.initial.rest.sources l.v (negatives l.v (map (kept_of l.initial.rest.columns l.initial.rest.sources) l.rows))) l.rows l.row-index (list_of l.rest);
  list : IsList l.rest;
  shape : HasShape l.rest l.initial.rest.columns l.initial.rest.sources;
}
