use Rattle.std.proofs.lemmas.Result.{IfOk-weaker}
use Rattle.crn_gated.specs.Reading.{gated_job_of}
use Rattle.crn_program.specs.Answer.{IsOutcomeOfGatedJob}
use Rattle.crn_program.specs.Texts.{IsGatedJobAnswer}
use Rattle.crn_program.proofs.Found.{says_text, says_line_of_text}
use Rattle.crn_program.proofs.gated.complete_gated.Goals as goal

pub returns-in-Ok : goal.returns-in-Ok
returns-in-Ok c =
    IfOk-weaker c.job_answer.result _ _
    (λ reply tells. says_text IsGatedJobAnswer IsOutcomeOfGatedJob c.args.bytes.now (gated_job_of c.in-Ok.job) reply.status reply.text.items c.requires c.in-Ok.ensures.answer tells)
    c.job_answer.ensures

pub returns-in-Err : goal.returns-in-Err
returns-in-Err c =
    IfOk-weaker c.refused_lines.result _ _
    (λ reply tells. says_line_of_text gated_job_of IsGatedJobAnswer IsOutcomeOfGatedJob c.args.bytes.now c.in-Err.error reply.status reply.text.items c.requires c.in-Err.ensures.answer tells)
    c.refused_lines.ensures
