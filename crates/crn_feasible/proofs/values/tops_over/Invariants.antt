use Rattle.std.proofs.Common.{◌≡◌, take}
use Rattle.crn_linear.specs.Rows.{AreSmall}
use Rattle.crn_feasible.specs.Elimination.{numerators_over}
use Rattle.crn_feasible.proofs.values.tops_over.Given as goal

abbrev pub invariant-loop-value : goal.invariant-loop-value
invariant-loop-value l = record { value : l.tops.items ≡ take l.value-index (numerators_over l.den l.values); small : AreSmall l.tops.items }
