use Rattle.std.proofs.Common.{◌≡◌, ◌≤◌, ◌^◌, take}
use Rattle.std.specs.Prelude.{unsigned_abs}
use Rattle.std.specs.List.{fold}
use Rattle.crn_fraction.specs.Gcd.{gcd}
use Rattle.crn_feasible.proofs.numbers.common_with.Given as goal

abbrev pub invariant-loop-multiplier : goal.invariant-loop-multiplier
invariant-loop-multiplier l = record {
  value : l.common ≡ fold (λ g m. gcd g (unsigned_abs m.1)) l.start (take l.multiplier-index l.multipliers);
  small : l.common ≤ 2 ^ 119;
}
