use Rattle.std.proofs.Common.{take}
use Rattle.std.specs.Prelude.{pos, ◌≤ℤ◌}
use Rattle.std.specs.List.{All}
use Rattle.crn_linear.specs.Rows.{AreSmall}
use Rattle.crn_farkas.proofs.are_in_range.Given as goal

abbrev pub invariant-loop-multiplier : goal.invariant-loop-multiplier
invariant-loop-multiplier l = record {
  nonnegative : All (λ m. pos 0 ≤ℤ m) (take l.multiplier-index l.multipliers);
  small : AreSmall (take l.multiplier-index l.multipliers);
}
