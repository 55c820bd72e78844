use Rattle.std.proofs.lemmas.Result.{IfOk-weaker}
use Rattle.crn_gated.specs.Forms.{gated_value}
use Rattle.crn_gated.specs.Reading.{gated_job_of}
use Rattle.crn_program.proofs.GatedJobs.{single_output, stably_gated, tells_gated_job}
use Rattle.crn_program.proofs.gated.job_answer.Goals as goal

pub run_answer-requires-clause-amounts : goal.run_answer-requires-clause-amounts
run_answer-requires-clause-amounts c =
    let job = gated_job_of c.args.job.now in
    rw c.deref.ensures.value (stably_gated c.in_ok-network.network job.function.variables job.function.forms job.amounts c.in_ok-network.ensures.layout c.requires.forms.forms c.requires.long c.requires.not_negative).0

pub run_answer-requires-clause-output : goal.run_answer-requires-clause-output
run_answer-requires-clause-output c =
    let job = gated_job_of c.args.job.now in
    single_output c.in_ok-network.network job.function.variables job.function.forms c.in_ok-network.ensures.layout

pub returns : goal.returns
returns c =
    let job = gated_job_of c.args.job.now in
    let stably = (stably_gated c.in_ok-network.network job.function.variables job.function.forms job.amounts c.in_ok-network.ensures.layout c.requires.forms.forms c.requires.long c.requires.not_negative).1 in
    IfOk-weaker c.run_answer.result _ _
    (λ reply tells. tells_gated_job job c.in_ok-network.network reply.status reply.text.items c.in_ok-network.ensures.layout (rw (c.deref.ensures.value, c.deref-2.ensures.value) at tells))
    (c.run_answer.ensures (gated_value job.function.forms job.amounts) (rw c.deref.ensures.value stably))
