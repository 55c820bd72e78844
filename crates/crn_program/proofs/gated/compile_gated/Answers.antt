use Rattle.std.proofs.lemmas.Result.{IfOk-weaker}
use Rattle.crn_gated.specs.Reading.{gated_of}
use Rattle.crn_program.specs.Answer.{IsOutcomeOfGated}
use Rattle.crn_program.specs.Texts.{IsGatedAnswer}
use Rattle.crn_program.proofs.Found.{says_text, says_line_of_text}
use Rattle.crn_program.proofs.gated.compile_gated.Goals as goal

pub returns-in-Ok : goal.returns-in-Ok
returns-in-Ok c =
    IfOk-weaker c.function_answer.result _ _
    (λ reply tells. says_text IsGatedAnswer IsOutcomeOfGated c.args.bytes.now (gated_of c.in-Ok.function) reply.status reply.text.items c.requires c.in-Ok.ensures.answer tells)
    c.function_answer.ensures

pub returns-in-Err : goal.returns-in-Err
returns-in-Err c =
    IfOk-weaker c.refused_lines.result _ _
    (λ reply tells. says_line_of_text gated_of IsGatedAnswer IsOutcomeOfGated c.args.bytes.now c.in-Err.error reply.status reply.text.items c.requires c.in-Err.ensures.answer tells)
    c.refused_lines.ensures
