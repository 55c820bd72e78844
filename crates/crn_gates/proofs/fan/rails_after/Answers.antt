use Rattle.std.proofs.Common.{arith}
use Rattle.crn_gates.proofs.RailCalls.{rails_more}
use Rattle.crn_gates.proofs.fan.rails_after.Goals as goal

pub loop-earlier-preserved : goal.loop-earlier-preserved
loop-earlier-preserved c = rails_more c.loop-earlier.earlier c.args.last c.loop-earlier.rails.items _ _ (omega arith) c.in_ok-push.ensures.items c.loop-earlier.invariant
