use Rattle.std.proofs.Common.{◌≡◌, ◌+◌, ◌∙◌, refl}
use Rattle.crn_token.specs.Lines.{physical_lines, token_lines_from}
use Rattle.crn_token.proofs.TextLaws.{lines_are_said}
use Rattle.crn_token.proofs.source.TextLines.new.Goals as goal

pub returns-clause-left : goal.returns-clause-left
returns-clause-left c =
    let w = c.in_ok-some.walk in
    let bytes = c.args.bytes.now in
    let text_is : w.bytes.now ≡ bytes = c.in_ok-some.ensures.bytes ∙ c.new-2.ensures.bytes in
    let begins : token_lines_from (c.new-2.result.count + 1) c.new-2.result.at (physical_lines c.new-2.result.rest.now) ≡ token_lines_from 1 0 (physical_lines bytes) =
    rw (c.new-2.ensures.count, c.new-2.ensures.at, c.new-2.ensures.rest) refl in
    rw text_is (lines_are_said bytes bytes w.rest.now 1 0 (w.count + 1) w.at c.in_ok-some.some c.next_line.new.line refl (rw (← text_is) w.place.here) (c.in_ok-some.ensures.lines ∙ begins))
