use Rattle.std.proofs.Common.{◌≡◌, subst}
use Rattle.std.proofs.lemmas.Result.{IfOk-weaker}
use Rattle.crn_cert_text.specs.ProvedText.{proved_of}
use Rattle.crn_token.specs.Plain.{end_of}
use Rattle.crn_program.specs.Ending.{Tells}
use Rattle.crn_program.specs.Proving.{IsOutcomeOfCheck}
use Rattle.crn_program.specs.Texts.{IsProvedAnswer}
use Rattle.crn_program.proofs.Found.{says_text, says_line_of_text}
use Rattle.crn_program.proofs.proving.check.Goals as goal

pub returns-in-Ok : goal.returns-in-Ok
returns-in-Ok c =
    let p = proved_of c.in-Ok.proved in
    IfOk-weaker c.verdict.result _ _
    (λ reply tells. says_text IsProvedAnswer (IsOutcomeOfCheck (end_of c.args.bytes.now)) c.args.bytes.now p reply.status reply.text.items c.requires c.in-Ok.ensures.answer
    (subst (λ n. Tells (IsOutcomeOfCheck n p) reply.status reply.text.items) c.in-Ok.ensures.end tells))
    c.verdict.ensures

pub returns-in-Err : goal.returns-in-Err
returns-in-Err c =
    IfOk-weaker c.refused_lines.result _ _
    (λ reply tells. says_line_of_text proved_of IsProvedAnswer (IsOutcomeOfCheck (end_of c.args.bytes.now)) c.args.bytes.now c.in-Err.error reply.status reply.text.items c.requires c.in-Err.ensures.answer tells)
    c.refused_lines.ensures
