use Rattle.std.proofs.Common.{◌≡◌, ℕ, ◌<◌, ◌≤◌, length, get_or}
use Rattle.std.specs.Prelude.{pos, ◌+ℤ◌, ◌*ℤ◌}
use Rattle.crn_farkas.proofs.add_multiple.Given as goal

abbrev pub invariant-loop-v : goal.invariant-loop-v
invariant-loop-v l = record {
  nine : length l.sums ≡ 9;
  added : (k : ℕ) → k < l.v → get_or l.sums k (pos 0) ≡ get_or l.fn.sums k (pos 0) +ℤ l.multiplier *ℤ get_or l.row.entries k (pos 0);
  left : (k : ℕ) → l.v ≤ k → get_or l.sums k (pos 0) ≡ get_or l.fn.sums k (pos 0);
}
