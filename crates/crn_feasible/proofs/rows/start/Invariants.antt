use Rattle.std.proofs.Common.{[], ◌∷◌, length}
use Rattle.crn_feasible.specs.Elimination.{started}
use Rattle.crn_feasible.specs.Steps.{list_of, IsList, HasShape}
use Rattle.crn_feasible.proofs.Turns.{Taken}
use Rattle.crn_feasible.proofs.rows.start.Given as goal

abbrev pub invariant-loop-i : goal.invariant-loop-i
invariant-loop-i l = record {
  taken : Taken [] (λ k. k ∷ []) (started 0 l.rows) l.i (list_of l.list);
  list : IsList l.list;
  shape : HasShape l.list l.system.system.columns (length l.rows);
}
