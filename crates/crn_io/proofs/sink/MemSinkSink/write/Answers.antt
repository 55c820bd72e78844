use Rattle.std.proofs.Common.{arith, rules, inl, inr}
use Rattle.crn_io.proofs.sink.MemSinkSink.write.Goals as goal
use Rattle.crn_io.proofs.sink.MemSinkSink.write.Goals.{then-room-eq0-via-then-room-eq0, then-room-eq0-via-else-room-eq0+then-contains}

pub returns-then-room-eq0-clause-fails : goal.returns-then-room-eq0-clause-fails
returns-then-room-eq0-clause-fails c = rw (← c.self.view_is) (elim c.then-room-eq0.branch [
  | then-room-eq0-via-then-room-eq0 w ↦ inr (omega arith)
  | then-room-eq0-via-else-room-eq0+then-contains w ↦ inl (search rules)
])
