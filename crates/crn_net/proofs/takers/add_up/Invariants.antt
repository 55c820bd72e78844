use Rattle.std.proofs.Common.{◌≡◌, ℕ, ◌<◌, ◌≤◌, length, get_or}
use Rattle.crn_net.specs.Takers.{sum_upto}
use Rattle.crn_net.proofs.takers.add_up.Given as goal

abbrev pub invariant-loop-species : goal.invariant-loop-species
invariant-loop-species l =
    (length l.counts ≡ length l.initial.counts)
    × ((s : ℕ) → s < l.species → get_or l.counts s 0 ≡ sum_upto (λ k. get_or l.initial.counts k 0) s)
    × ((s : ℕ) → l.species ≤ s → get_or l.counts s 0 ≡ get_or l.initial.counts s 0)
