use Rattle.std.proofs.Common.{length}
use Rattle.crn_segments.proofs.FlowWalk.{flow_walks}
use Rattle.crn_segments.proofs.Products.{flow_exists}
use Rattle.crn_segments.proofs.work.Sums.add_flows.Goals as goal

pub add_flow-requires-clause-low : goal.add_flow-requires-clause-low
add_flow-requires-clause-low c = (flow_exists (length c.args.network.now.reactions) c.args.flows.now c.loop-flow.flow-index c.flow-item.result c.requires.exist c.loop-flow-test.true c.flow-item.is).0

pub add_flow-requires-clause-high : goal.add_flow-requires-clause-high
add_flow-requires-clause-high c = (flow_exists (length c.args.network.now.reactions) c.args.flows.now c.loop-flow.flow-index c.flow-item.result c.requires.exist c.loop-flow-test.true c.flow-item.is).1

pub loop-flow-preserved : goal.loop-flow-preserved
loop-flow-preserved c =
    flow_walks c.args.network.now c.args.state.now c.args.flows.now c.args.self.now c.loop-flow.self c.add_flow.new.self c.loop-flow.flow-index c.flow-item.result c.loop-flow-test.true c.flow-item.is c.loop-flow.invariant
    c.add_flow.ensures.room c.add_flow.ensures.sums
