use Rattle.std.proofs.Common.{◌≡◌, ◌+◌, ◌-◌, ◌++◌, ◌≤◌, length, drop, map}
use Rattle.std.specs.Option.{option_map}
use Rattle.crn_token.specs.Plain.{plain_token}
use Rattle.crn_net.specs.Views.{parts_of}
use Rattle.crn_net_text.specs.Grammar.{side_at}
use Rattle.crn_net_text.proofs.side.side_at.Given as goal

abbrev pub invariant-loop : goal.invariant-loop
invariant-loop l = record {
  fits : l.taken ≤ length l.tokens;
  told : option_map (λ q. (parts_of l.parts.items ++ q.0, l.taken + q.1)) (side_at (length l.tokens - l.counter) l.low l.species (drop l.taken (map (plain_token l.bytes) l.tokens)))
      ≡ side_at (length l.tokens) 0 l.species (map (plain_token l.bytes) l.tokens);
}
