use Rattle.std.proofs.Common.{◌≡◌, ℕ, ◌<◌, ◌≤◌, true}
use Rattle.crn_net_text.specs.Grammar.{is_named}
use Rattle.crn_net_text.proofs.place.some_left.Given as goal

abbrev pub invariant-loop-s : goal.invariant-loop-s
invariant-loop-s l = (k : ℕ) → 1 ≤ k → k < l.s → is_named l.inputs k ≡ true
