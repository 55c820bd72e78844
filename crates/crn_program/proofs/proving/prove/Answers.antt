use Rattle.std.proofs.lemmas.Result.{IfOk-weaker}
use Rattle.crn_function_text.specs.Reading.{function_of}
use Rattle.crn_program.specs.Proving.{IsOutcomeOfProof}
use Rattle.crn_program.specs.Texts.{IsFunctionAnswer}
use Rattle.crn_program.proofs.Found.{says_text, says_line_of_text}
use Rattle.crn_program.proofs.proving.prove.Goals as goal

pub returns-in-Ok : goal.returns-in-Ok
returns-in-Ok c =
    IfOk-weaker c.function_answer.result _ _
    (λ reply tells. says_text IsFunctionAnswer IsOutcomeOfProof c.args.bytes.now (function_of c.in-Ok.function) reply.status reply.text.items c.requires c.in-Ok.ensures.answer tells)
    c.function_answer.ensures

pub returns-in-Err : goal.returns-in-Err
returns-in-Err c =
    IfOk-weaker c.refused_lines.result _ _
    (λ reply tells. says_line_of_text function_of IsFunctionAnswer IsOutcomeOfProof c.args.bytes.now c.in-Err.error reply.status reply.text.items c.requires c.in-Err.ensures.answer tells)
    c.refused_lines.ensures
