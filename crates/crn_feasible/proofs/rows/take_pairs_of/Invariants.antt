use Rattle.std.proofs.Common.{[], ◌∷◌}
use Rattle.crn_feasible.specs.Elimination.{combined}
use Rattle.crn_feasible.specs.Steps.{kept_of, list_of, IsList, HasShape}
use Rattle.crn_feasible.proofs.Turns.{Taken}
use Rattle.crn_feasible.proofs.rows.take_pairs_of.Given as goal

abbrev pub invariant-loop-row : goal.invariant-loop-row
invariant-loop-row l = record {
  taken : Taken (list_of l.initial.rest) (λ r. combined l.v (kept_of l.initial.rest.columns l.initial.rest.sources l.p) (kept_of l.initial.rest.columns l.initial.rest.sources r.now) ∷ []) l.negatives l.row-index (list_of l.rest);
  list : IsList l.rest;
  shape : HasShape l.rest l.initial.rest.columns l.initial.rest.sources;
}
