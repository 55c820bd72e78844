use Rattle.std.proofs.Common.{◌≡◌, ℕ, ◌<◌, ◌≤◌, ◌*◌, ◌^◌, take, get_or}
use Rattle.std.specs.Prelude.{pos, unsigned_abs}
use Rattle.crn_linear.specs.Rows.{dot}
use Rattle.crn_farkas.specs.Systems.{column}
use Rattle.crn_farkas.proofs.sums_of.Given as goal

abbrev pub invariant-loop-i : goal.invariant-loop-i
invariant-loop-i l = record {
  value : (v : ℕ) → v < l.columns → get_or l.sums v (pos 0) ≡ dot (take l.i l.multipliers) (take l.i (column v l.rows));
  small : (v : ℕ) → v < l.columns → unsigned_abs (get_or l.sums v (pos 0)) ≤ l.i * 2 ^ 118;
}
