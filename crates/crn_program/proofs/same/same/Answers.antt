use Rattle.std.proofs.lemmas.Result.{IfOk-weaker}
use Rattle.crn_function_text.specs.Two.{two_of}
use Rattle.crn_program.specs.Comparing.{IsOutcomeOfTwo}
use Rattle.crn_program.specs.Texts.{IsTwoAnswer}
use Rattle.crn_program.proofs.Found.{says_text, says_line_of_text}
use Rattle.crn_program.proofs.same.same.Goals as goal

pub returns-in-Ok : goal.returns-in-Ok
returns-in-Ok c =
    IfOk-weaker c.comparison.result _ _
    (λ reply tells. says_text IsTwoAnswer IsOutcomeOfTwo c.args.bytes.now (two_of (c.in-Ok.first, c.in-Ok.second)) reply.status reply.text.items c.requires c.in-Ok.ensures.answer tells)
    c.comparison.ensures

pub returns-in-Err : goal.returns-in-Err
returns-in-Err c =
    IfOk-weaker c.refused_lines.result _ _
    (λ reply tells. says_line_of_text two_of IsTwoAnswer IsOutcomeOfTwo c.args.bytes.now c.in-Err.error reply.status reply.text.items c.requires c.in-Err.ensures.answer tells)
    c.refused_lines.ensures
