use Rattle.crn_job.proofs.Flows.{flow_first, flow_none}
use Rattle.crn_job.proofs.tail.read_flow.Goals as goal

pub returns-in-Some-clause-value : goal.returns-in-Some-clause-value
returns-in-Some-clause-value c = λ bytes. flow_first bytes c.args.tokens.now c.after.result.now c.in-Some.reaction c.flow_to.result (c.flow_to.ensures.value bytes) c.after.ensures (c.in-Some.ensures bytes)

pub returns-in-None-clause-value : goal.returns-in-None-clause-value
returns-in-None-clause-value c = λ bytes. flow_none bytes c.args.tokens.now (c.in-None.ensures bytes)
