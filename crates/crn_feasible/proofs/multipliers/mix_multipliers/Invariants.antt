use Rattle.std.proofs.Common.{◌≡◌, ◌++◌, ◌+◌, ◌-◌, ◌≤◌, ◌^◌, drop, length}
use Rattle.std.specs.Prelude.{unsigned_abs}
use Rattle.std.specs.List.{All}
use Rattle.crn_feasible.proofs.Sparse.{merged}
use Rattle.crn_feasible.proofs.multipliers.mix_multipliers.Given as goal

abbrev pub invariant-loop-i : goal.invariant-loop-i
invariant-loop-i l = record {
  items : l.out.items ++ merged l.a (drop l.i l.p) l.b (drop l.j l.n) ≡ merged l.a l.p l.b l.n;
  wide : All (λ m. unsigned_abs m.1 ≤ 2 ^ 119) l.out.items;
  first : l.i ≤ length l.p;
  second : l.j ≤ length l.n;
}

abbrev pub decreases-loop-i : goal.decreases-loop-i
decreases-loop-i l = (length l.initial.p - l.i) + (length l.initial.n - l.j)
