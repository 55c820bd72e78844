use Rattle.std.proofs.Common.{◌≡◌, string_bytes, rules}
use Rattle.std.proofs.lemmas.Result.{IfOk-weaker}
use Rattle.crn_program.proofs.GatedJobs.{tells_completed_gated, tells_unfinished_gated}
use Rattle.crn_program.proofs.gated.completion_answer.Goals as goal

pub returns-in-Ok : goal.returns-in-Ok
returns-in-Ok c =
    let text : c.into_bytes.result.items ≡ string_bytes c.end_report.new.out = search rules in
    tells_completed_gated c.args.network.now c.args.replay.now.state c.complete_gated.new.replay.state c.in-Ok.flows.items
    (string_bytes c.in_ok-report.report) (string_bytes c.end_report.new.out) c.into_bytes.result.items
    c.in-Ok.ensures.fits c.in-Ok.ensures.ok c.in-Ok.ensures.run
    (rw c.state.ensures.value at c.in_ok-report.ensures) text
    (rw (c.deref.ensures.value, c.state-in-Ok.ensures.value) at c.in_ok-end_report-in-Ok.ensures)

pub returns-in-Err-TooBig : goal.returns-in-Err-TooBig
returns-in-Err-TooBig c =
    let (cause, led) = rw (c.in-Err-TooBig.is, c.in-Err-TooBig.field-0-is) at c.complete_gated.ensures.stops in
    IfOk-weaker c.refused_completion.result _ _
    (λ reply is. tells_unfinished_gated c.args.network.now c.args.replay.now.state _ reply.status reply.text.items cause is.0 is.1)
    c.refused_completion.ensures
