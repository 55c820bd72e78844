use Rattle.std.proofs.Common.{arith}
use Rattle.crn_token.proofs.LineLaws.{lines_within, count_is}
use Rattle.crn_token.proofs.source.LinesFromLineSource.end.Goals as goal

pub overflow_add-result : goal.overflow_add-result
overflow_add-result c =
    let s = c.self.inside in
    omega (arith, lines_within s.bytes.now, count_is s.bytes.now s.lines.now c.self.invariant.0)
