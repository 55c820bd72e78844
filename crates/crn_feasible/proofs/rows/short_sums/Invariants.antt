use Rattle.std.proofs.Common.{◌≡◌, ◌-◌, ◌++◌, take}
use Rattle.std.specs.Prelude.{replicate, pos}
use Rattle.crn_farkas.specs.Mixtures.{mixed}
use Rattle.crn_linear.specs.Rows.{AreSmall}
use Rattle.crn_feasible.proofs.rows.short_sums.Given as goal

abbrev pub invariant-loop-i : goal.invariant-loop-i
invariant-loop-i l = record {
  sums : l.sums ≡ take l.i (mixed l.fn.a l.p l.fn.b l.n) ++ replicate (9 - l.i) (pos 0);
  small : AreSmall (take l.i (mixed l.fn.a l.p l.fn.b l.n));
}
