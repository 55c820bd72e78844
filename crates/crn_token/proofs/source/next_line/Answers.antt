use Rattle.std.proofs.Common.{◌<◌, ◌∙◌, length, arith, ap, length-drop, ◌+◌, false-eqb, true, false}
use Rattle.crn_token.specs.Lines.{view}
use Rattle.crn_token.proofs.SourceLaws.{line_read}
use Rattle.crn_token.proofs.source.next_line.Goals as goal

pub returns-then-kept-clause-lines : goal.returns-then-kept-clause-lines
returns-then-kept-clause-lines c =
    let w = c.lines.walk in
    let after = c.cut.result.1 in
    let some : 0 < length w.rest.now = omega (arith, false-eqb _ 0 c.lines-test.ensures) in
    line_read w.count w.at after.count after.at w.rest.now c.cut.result.0.now after.rest.now c.in_ok-kept.kept true (view c.fill_line.new.line) _ some
    c.cut.ensures.line c.cut.ensures.rest c.cut.ensures.count c.cut.ensures.at c.if-kept.true c.in_ok-kept.ensures c.lines.invariant.told

pub lines-preserved : goal.lines-preserved
lines-preserved c =
    let w = c.lines.walk in
    let after = c.cut.result.1 in
    let some : 0 < length w.rest.now = omega (arith, false-eqb _ 0 c.lines-test.ensures) in
    record {
      bytes = c.cut.ensures.bytes ∙ c.lines.invariant.bytes;
      told = line_read w.count w.at after.count after.at w.rest.now c.cut.result.0.now after.rest.now c.in_ok-kept.kept false (view c.fill_line.new.line) _ some
          c.cut.ensures.line c.cut.ensures.rest c.cut.ensures.count c.cut.ensures.at c.if-kept.false c.in_ok-kept.ensures c.lines.invariant.told;
      shorter = omega (arith, some, c.lines.invariant.shorter, ap length c.cut.ensures.rest, length-drop (length c.cut.result.0.now + 1) w.rest.now);
    }
