use Rattle.std.proofs.Common.{◌≡◌, ◌-◌, ◌<◌, ◌≤◌, ℕ, false, length, get_or, ◌==◌}
use Rattle.crn_token.proofs.blocks_without.Given as goal

-- the mark is at none of these places
abbrev pub invariant-whole : goal.invariant-whole
invariant-whole l = record {
  none : (k : ℕ) → k < l.at → (get_or l.bytes k 0 == l.mark) ≡ false;
  bound : l.at ≤ length l.bytes;
}

abbrev pub decreases-whole : goal.decreases-whole
decreases-whole l = length l.bytes - l.at
