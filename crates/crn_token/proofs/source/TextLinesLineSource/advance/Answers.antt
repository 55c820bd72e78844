use Rattle.std.proofs.Common.{◌+◌, ◌∙◌}
use Rattle.crn_token.specs.Plain.{plain_line}
use Rattle.crn_token.proofs.SourceLaws.{says_read, left_after}
use Rattle.crn_token.proofs.source.TextLinesLineSource.advance.Goals as goal

pub returns-clause-left : goal.returns-clause-left
returns-clause-left c =
    let s = c.self.inside in
    let w = c.in_ok-some.walk in
    rw (← c.self.view_is, c.in_ok-some.ensures.bytes) (
    says_read s.walk.bytes.now s.walk.rest.now w.rest.now s.walk.count s.walk.at w.count w.at c.in_ok-some.some c.next_line.new.line s.walk.place (rw (← c.in_ok-some.ensures.bytes) w.place) c.in_ok-some.ensures.lines
    ∙ left_after s.some (plain_line s.walk.bytes.now s.line) s.walk.rest.now (s.walk.count + 1) c.self.invariant
    )
