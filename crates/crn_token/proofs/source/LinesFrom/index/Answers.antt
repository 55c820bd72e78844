use Rattle.std.proofs.Common.{arith}
use Rattle.crn_token.proofs.SourceLaws.{plain_count}
use Rattle.crn_token.proofs.source.LinesFrom.index.Goals as goal

pub returns-clause-within : goal.returns-clause-within
returns-clause-within c =
    let s = c.self.inside in
    let count = plain_count s.bytes.now s.lines.now c.self.invariant.0 in
    rw (← c.self.view_is) (omega (arith, count, c.self.invariant.1))
