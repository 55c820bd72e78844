use Rattle.std.proofs.Common.{arith, rules}
use Rattle.crn_gates.proofs.FanCalls.{fan_some, fan_none}
use Rattle.crn_gates.proofs.fan.fan.Goals as goal
use Rattle.crn_gates.proofs.fan.fan.Goals.{then-not-is_empty+in_ok-takes+in_ok-push, else-not-is_empty}

pub loop-earlier-preserved : goal.loop-earlier-preserved
loop-earlier-preserved c =
    elim c.if-not-is_empty.branch [
      | then-not-is_empty+in_ok-takes+in_ok-push w ↦ fan_some c.args.species c.loop-earlier.earlier c.args.originals.now c.loop-earlier.reactions.items _ (omega arith) c.loop-earlier.invariant _
          (record { takes = w.in_ok-takes.takes; gives = c.in_ok-gives.gives }) c.in_ok-gives.ensures (search rules) (search rules) (search rules)
      | else-not-is_empty w ↦ rw w.reactions-is (fan_none c.args.species c.loop-earlier.earlier c.args.originals.now c.loop-earlier.reactions.items _ (omega arith) c.loop-earlier.invariant c.in_ok-gives.gives.items c.in_ok-gives.ensures (search rules))
    ]
