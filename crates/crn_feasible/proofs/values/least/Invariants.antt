use Rattle.std.proofs.Common.{◌≡◌, true, take, get_or}
use Rattle.std.specs.Prelude.{pos}
use Rattle.std.specs.List.{fold}
use Rattle.crn_fraction.specs.Rational.{whole, min_ℚ}
use Rattle.crn_feasible.specs.Elimination.{fits_ℚ}
use Rattle.crn_feasible.proofs.values.least.Given as goal

abbrev pub invariant-loop-bound : goal.invariant-loop-bound
invariant-loop-bound l = record { value : l.best ≡ fold min_ℚ (get_or l.bounds 0 (whole (pos 0))) (take l.bound-index l.bound-items); fits : fits_ℚ l.best ≡ true }
