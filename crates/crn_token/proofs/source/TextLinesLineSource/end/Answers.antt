use Rattle.std.proofs.Common.{arith}
use Rattle.crn_token.proofs.LineLaws.{lines_within}
use Rattle.crn_token.proofs.source.TextLinesLineSource.end.Goals as goal

pub overflow_add-result : goal.overflow_add-result
overflow_add-result c =
    let w = c.self.inside.walk in
    omega (arith, lines_within w.bytes.now, w.place.counted)
