use Rattle.crn_segments.proofs.FlowWalk.{FlowWalk}
use Rattle.crn_segments.proofs.work.Sums.add_flows.Given as goal

abbrev pub invariant-loop-flow : goal.invariant-loop-flow
invariant-loop-flow l = FlowWalk l.network l.state l.flows l.fn.self l.self l.flow-index
