use Rattle.std.proofs.Common.{◌≡◌, ◌++◌, ◌-◌, drop}
use Rattle.crn_linear.specs.Rows.{AreSmall}
use Rattle.crn_feasible.specs.Sparse.{spread}
use Rattle.crn_feasible.proofs.multipliers.spread.Given as goal

abbrev pub invariant-loop-row : goal.invariant-loop-row
invariant-loop-row l = record {
  items : l.all.items ++ spread l.row (l.rows - l.row) (drop l.next l.multipliers) ≡ spread 0 l.rows l.multipliers;
  small : AreSmall l.all.items;
}
