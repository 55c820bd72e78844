-- The copies that a leaf takes: species one after another.
use Rattle.std.proofs.Common.{◌≡◌, ◌≢◌, ℕ, zero, suc, ◌+◌, ◌<◌, ◌≤◌, ◌∙◌, arith}
use Rattle.std.specs.List.{range_with_len}
use Rattle.crn_gates.specs.Gates.{slot_species}
use Rattle.crn_net.specs.Network.{IsApart, AreDifferent}
use Rattle.crn_net.specs.Reactions.{AreAtMost}

-- a species that is none of them
pub copies_apart : (w a s : ℕ) → ((i : ℕ) → a ≤ i → i < a + w → s ≢ i) → IsApart s (range_with_len a w)
copies_apart zero a s h = tt
copies_apart (suc w) a s h = (h a (omega arith) (omega arith), copies_apart w (a + 1) s (λ i l k. h i (omega arith) (omega arith)))

-- no two are the same
pub copies_different : (w a : ℕ) → AreDifferent (range_with_len a w)
copies_different zero a = tt
copies_different (suc w) a = (copies_apart w (a + 1) a (λ i l k. omega arith), copies_different w (a + 1))

-- they are at most n
pub copies_low : (w a n : ℕ) → a + w ≤ n + 1 → AreAtMost n (range_with_len a w)
copies_low zero a n l = tt
copies_low (suc w) a n l = (omega arith, copies_low w (a + 1) n (omega arith))

-- the species of a slot
pub copy_at : (w a n j : ℕ) → j < w → slot_species (range_with_len a w) n j ≡ a + j
copy_at zero a n j l = absurd (omega arith)
copy_at (suc w) a n zero l = omega arith
copy_at (suc w) a n (suc j) l = copy_at w (a + 1) n j (omega arith) ∙ omega arith
