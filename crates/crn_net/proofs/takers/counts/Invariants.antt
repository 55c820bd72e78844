use Rattle.std.proofs.Common.{◌≡◌, ℕ, ◌+◌, ◌≤◌, length, get_or, drop}
use Rattle.crn_net.specs.Takers.{numbers_of, AreEntries}
use Rattle.crn_net.proofs.takers.counts.Given as goal

abbrev pub invariant-loop-entry : goal.invariant-loop-entry
invariant-loop-entry l =
    (length l.counts.items ≡ l.species + 1) × AreEntries l.species (drop l.entry-index l.entries)
    × ((s : ℕ) → s ≤ l.species → get_or l.counts.items s 0 + length (numbers_of s (drop l.entry-index l.entries)) ≡ length (numbers_of s l.entries))
