use Rattle.std.proofs.Common.{ap, length, ◌∙◌}
use Rattle.std.proofs.lemmas.Result.{IfOk-weaker}
use Rattle.crn_net.specs.Network.{start}
use Rattle.crn_net.proofs.Start.{start_is_state}
use Rattle.crn_program.proofs.GatedJobs.{tells_gated, tells_refused_gated}
use Rattle.crn_program.proofs.gated.run_answer.Goals as goal

pub new-requires : goal.new-requires
new-requires c = ap length c.in_ok-start.ensures ∙ (start_is_state c.args.network.now c.args.amounts.now c.requires.amounts.not_negative).long

pub completion_answer-requires-clause-network : goal.completion_answer-requires-clause-network
completion_answer-requires-clause-network c = c.in-Ok.ensures.network ∙ c.in_ok-replay.ensures.0

pub returns-in-Ok : goal.returns-in-Ok
returns-in-Ok c value computes =
    IfOk-weaker c.completion_answer.result _ _
    (λ reply tells. tells_gated c.args.network.now value c.args.amounts.now c.args.segments.now c.in_ok-replay.replay c.replay_all.new.replay reply.status reply.text.items
    computes c.in_ok-replay.ensures.0 (c.in_ok-replay.ensures.1 ∙ c.in_ok-start.ensures) c.in-Ok.ensures.ok c.in-Ok.ensures.segments tells)
    c.completion_answer.ensures

pub returns : goal.returns
returns c value computes =
    IfOk-weaker c.refused_segment.result _ _
    (λ reply tells. tells_refused_gated c.args.network.now value (start c.args.network.now c.args.amounts.now) c.args.segments.now c.in_ok-replay.replay c.in-Err.refusal.number c.in-Err.refusal.error reply.status reply.text.items
    c.in_ok-replay.ensures.0 (c.in_ok-replay.ensures.1 ∙ c.in_ok-start.ensures) c.in-Err.ensures.err tells.0 tells.1)
    c.refused_segment.ensures
