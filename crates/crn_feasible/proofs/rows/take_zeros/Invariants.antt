use Rattle.crn_feasible.specs.Steps.{list_of, IsList, HasShape}
use Rattle.crn_feasible.proofs.Turns.{Taken}
use Rattle.crn_feasible.proofs.Parts.{zero_part}
use Rattle.crn_feasible.proofs.rows.take_zeros.Given as goal

abbrev pub invariant-loop-row : goal.invariant-loop-row
invariant-loop-row l = record {
  taken : Taken (list_of l.initial.rest) (zero_part l.initial.rest.columns l.initial.rest.sources l.v) l.rows l.row-index (list_of l.rest);
  list : IsList l.rest;
  shape : HasShape l.rest l.initial.rest.columns l.initial.rest.sources;
}
