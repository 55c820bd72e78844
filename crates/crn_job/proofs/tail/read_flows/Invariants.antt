use Rattle.std.proofs.Common.{◌≡◌, ℕ, ◌+◌, ◌-◌, ◌++◌, ◌≤◌, List, length, map}
use Rattle.std.specs.Option.{option_map}
use Rattle.crn_token.specs.Plain.{plain_token}
use Rattle.crn_job.specs.Grammar.{flows_of}
use Rattle.crn_job.proofs.tail.read_flows.Given as goal

abbrev pub invariant-flows : goal.invariant-flows
invariant-flows l = record {
  few : length l.flows.items + length l.rest ≤ length l.tokens;
  told : (bytes : List ℕ) → option_map (λ fs. l.flows.items ++ fs) (flows_of (length l.tokens - length l.flows.items) (map (plain_token bytes) l.rest)) ≡ flows_of (length l.tokens) (map (plain_token bytes) l.tokens);
}

abbrev pub decreases-flows : goal.decreases-flows
decreases-flows l = length l.rest
