use Rattle.std.proofs.Common.{arith}
use Rattle.crn_gates.proofs.FanCalls.{inputs_more, dual_input, direct_input}
use Rattle.crn_gates.proofs.inputs_of.Goals as goal
use Rattle.crn_gates.proofs.inputs_of.Goals.{in-Dual, in-Direct}

pub loop-earlier-preserved : goal.loop-earlier-preserved
loop-earlier-preserved c =
    inputs_more c.args.rails c.loop-earlier.earlier c.args.variables c.loop-earlier.inputs.items _ _ c.match-rails.push (omega arith)
    (elim c.match-rails.branch [ in-Dual w ↦ dual_input _ _ _ w.in-Dual.is w.push-is | in-Direct w ↦ direct_input _ _ _ w.in-Direct.is w.push-is ])
    c.in_ok-push.ensures.items c.loop-earlier.invariant
