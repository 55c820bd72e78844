use Rattle.std.proofs.Common.{◌≡◌, ◌≤◌, ◌+◌, length}
use Rattle.crn_token.specs.Lines.{token_lines_from, physical_lines}
use Rattle.crn_token.proofs.source.next_line.Given as goal

abbrev pub invariant-lines : goal.invariant-lines
invariant-lines l = record {
  bytes : l.walk.bytes.now ≡ l.fn.from.bytes.now;
  told : token_lines_from (l.walk.count + 1) l.walk.at (physical_lines l.walk.rest.now) ≡ token_lines_from (l.fn.from.count + 1) l.fn.from.at (physical_lines l.fn.from.rest.now);
  shorter : length l.walk.rest.now ≤ length l.fn.from.rest.now;
}

abbrev pub decreases-lines : goal.decreases-lines
decreases-lines l = length l.walk.rest.now
