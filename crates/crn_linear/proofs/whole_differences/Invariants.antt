use Rattle.std.proofs.Common.{◌≡◌, ℕ, ◌<◌, length, get_or}
use Rattle.std.specs.Prelude.{pos}
use Rattle.crn_fraction.specs.Rational.{whole}
use Rattle.crn_linear.specs.Forms.{minus, entry_of}
use Rattle.crn_linear.specs.Rows.{IsSmall}
use Rattle.crn_linear.proofs.whole_differences.Given as goal

abbrev pub invariant-loop-i : goal.invariant-loop-i
invariant-loop-i l = record {
  nine : length l.differences ≡ 9;
  each : (k : ℕ) → k < l.i → IsSmall (get_or l.differences k (pos 0)) × (entry_of (minus l.a l.b) k ≡ whole (get_or l.differences k (pos 0)));
}
