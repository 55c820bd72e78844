use Rattle.std.proofs.Common.{◌≤◌, length, arith, drop-drop, sym}
use Rattle.crn_token.specs.Plain.{plain_lines}
use Rattle.crn_token.proofs.SourceLaws.{still_past}
use Rattle.crn_token.proofs.source.LinesFromLineSource.advance.Goals as goal

pub returns-then-self-len-clause-left : goal.returns-then-self-len-clause-left
returns-then-self-len-clause-left c =
    let s = c.self.inside in
    rw (← c.self.view_is) (sym (drop-drop 1 s.index (plain_lines s.bytes.now)))

pub returns-else-self-len-clause-left : goal.returns-else-self-len-clause-left
returns-else-self-len-clause-left c =
    let s = c.self.inside in
    let past : length s.lines.now.lines.items ≤ s.index = omega arith in
    rw (← c.self.view_is) (still_past s.bytes.now s.lines.now s.index c.self.invariant.0 past)
