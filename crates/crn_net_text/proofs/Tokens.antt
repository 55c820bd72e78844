-- Whether a place is open, and counts that are cast.
use Rattle.std.proofs.Common.{◌≡◌, ℕ, ◌<◌, ◌^◌, ap, to_z, w64}
use Rattle.crn_fraction.proofs.Values.{cast_natural}
use Rattle.crn_net.specs.Views.{natural}

-- a small count is cast as it is
pub same_count : (n : ℕ) → n < 2 ^ 63 → natural (to_z w64 n) ≡ n
same_count n fits = ap natural (cast_natural n fits)
