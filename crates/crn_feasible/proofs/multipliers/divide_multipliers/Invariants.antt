use Rattle.std.proofs.Common.{◌≡◌, map, take}
use Rattle.crn_feasible.specs.Sparse.{divided, AreSmallAt}
use Rattle.crn_feasible.proofs.multipliers.divide_multipliers.Given as goal

abbrev pub invariant-loop-multiplier : goal.invariant-loop-multiplier
invariant-loop-multiplier l = record {
  items : l.out.items ≡ map (divided l.divisor) (take l.multiplier-index l.multipliers);
  small : AreSmallAt l.out.items;
}
