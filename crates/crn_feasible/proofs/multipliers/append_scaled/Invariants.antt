use Rattle.std.proofs.Common.{◌≡◌, ◌++◌, ◌≤◌, ◌^◌, map, take}
use Rattle.std.specs.Prelude.{unsigned_abs}
use Rattle.std.specs.List.{All}
use Rattle.crn_feasible.specs.Sparse.{scaled}
use Rattle.crn_feasible.proofs.multipliers.append_scaled.Given as goal

abbrev pub invariant-loop-multiplier : goal.invariant-loop-multiplier
invariant-loop-multiplier l = record {
  items : l.out.items ≡ l.initial.out.items ++ map (scaled l.a) (take l.multiplier-index l.multipliers);
  wide : All (λ m. unsigned_abs m.1 ≤ 2 ^ 119) l.out.items;
}
