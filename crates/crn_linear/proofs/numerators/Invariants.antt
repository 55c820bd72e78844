use Rattle.std.proofs.Common.{◌≡◌, ℕ, ◌<◌, ◌-◌, ◌++◌, take, get_or}
use Rattle.std.specs.Prelude.{replicate, pos}
use Rattle.crn_linear.specs.Rows.{IsSmall}
use Rattle.crn_linear.specs.Cleared.{numerators}
use Rattle.crn_linear.proofs.numerators.Given as goal

abbrev pub invariant-loop-i : goal.invariant-loop-i
invariant-loop-i l = record {
  filled : l.entries ≡ take l.i (numerators l.units) ++ replicate (9 - l.i) (pos 0);
  small : (k : ℕ) → k < l.i → IsSmall (get_or (numerators l.units) k (pos 0));
}
