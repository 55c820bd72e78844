use Rattle.std.proofs.Common.{◌≡◌, length, subst, rules, arith}
use Rattle.std.proofs.lemmas.List.{length-map}
use Rattle.std.proofs.lemmas.Result.{IfOk-weaker}
use Rattle.crn_cert_text.specs.Answers.{IsAccepted, IsRejected}
use Rattle.crn_cert_text.specs.ProvedText.{proved_of}
use Rattle.crn_cert_text.specs.Views.{line_of, lines_of_proof}
use Rattle.crn_cert_text.specs.declared.VerifyError.TheVariants as verify
use Rattle.crn_compile.specs.declared.CompileError.TheVariants as cause
use Rattle.crn_formula.specs.Functions.{IsGivenByPieces}
use Rattle.crn_formula.specs.Views.{kind_of}
use Rattle.crn_pieces.specs.Views.{pieces_in}
use Rattle.crn_program.specs.Proving.{IsOutcomeOfCheck}
use Rattle.crn_program.proofs.ToldOfPieces.{tells_other, tells_unclear, tells_checked, tells_not_proved}
use Rattle.crn_program.proofs.proving.verdict.Goals as goal

pub returns-then-not-is_by_pieces : goal.returns-then-not-is_by_pieces
returns-then-not-is_by_pieces c =
    let p = proved_of c.args.proved.now in
    let other : IsGivenByPieces (kind_of c.args.proved.now.function.kind) → ⊥ = λ given. let yes = c.is_by_pieces.ensures.1 given in search (rules, yes) in
    IfOk-weaker c.other_kind.result _ _
    (λ reply is. tells_other (IsOutcomeOfCheck c.args.proved.now.end p) reply.status reply.text.items other is.0 is.1)
    c.other_kind.ensures

pub returns-in-Ok : goal.returns-in-Ok
returns-in-Ok c =
    let p = proved_of c.args.proved.now in
    let given : IsGivenByPieces (kind_of c.args.proved.now.function.kind) = c.is_by_pieces.ensures.0 (search rules) in
    let accepted = subst (λ d. IsAccepted d (pieces_in c.args.proved.now.function) (lines_of_proof c.args.proved.now.proof.lines.items)) c.requires c.in-Ok.ensures.verdict in
    let lines = c.args.proved.now.proof.lines in
    let counted : c.len.result ≡ length p.proof.lines = omega (arith, c.len.ensures, lines.ok.0, length-map lines.items line_of) in
    IfOk-weaker c.checked_lines.result _ _
    (λ reply is. tells_checked c.args.proved.now.end p c.len.result reply.status reply.text.items c.variables-variables.ensures.rule.fitting given accepted
    counted is)
    c.checked_lines.ensures

pub returns-in-Err-BigCondition : goal.returns-in-Err-BigCondition
returns-in-Err-BigCondition c =
    let p = proved_of c.args.proved.now in
    let given : IsGivenByPieces (kind_of c.args.proved.now.function.kind) = c.is_by_pieces.ensures.0 (search rules) in
    let unclear = rw (c.in-Err-BigCondition.is, c.in-Err-BigCondition.field-0-is) at c.verify.ensures.verdict in
    IfOk-weaker c.refused_function.result _ _
    (λ reply is. tells_unclear c.args.proved.now.end p c.variables-variables.result (cause.BigCondition c.in-Err-BigCondition.piece c.in-Err-BigCondition.condition) reply.status reply.text.items given
    c.variables-variables.ensures.value unclear is)
    c.refused_function.ensures

pub returns-in-Err-BigDifference : goal.returns-in-Err-BigDifference
returns-in-Err-BigDifference c =
    let p = proved_of c.args.proved.now in
    let given : IsGivenByPieces (kind_of c.args.proved.now.function.kind) = c.is_by_pieces.ensures.0 (search rules) in
    let unclear = rw (c.in-Err-BigDifference.is, c.in-Err-BigDifference.field-0-is) at c.verify.ensures.verdict in
    IfOk-weaker c.refused_function-in-Err-BigDifference.result _ _
    (λ reply is. tells_unclear c.args.proved.now.end p c.variables-variables.result (cause.BigDifference c.in-Err-BigDifference.first c.in-Err-BigDifference.second) reply.status reply.text.items given
    c.variables-variables.ensures.value unclear is)
    c.refused_function-in-Err-BigDifference.ensures

pub returns-in-Err-NotProved : goal.returns-in-Err-NotProved
returns-in-Err-NotProved c =
    let p = proved_of c.args.proved.now in
    let index = c.in-Err-NotProved.index in
    let given : IsGivenByPieces (kind_of c.args.proved.now.function.kind) = c.is_by_pieces.ensures.0 (search rules) in
    let rejected = rw (c.in-Err-NotProved.is, c.in-Err-NotProved.field-0-is) at c.verify.ensures.verdict in
    let own = subst (λ d. IsRejected d (pieces_in c.args.proved.now.function) (lines_of_proof c.args.proved.now.proof.lines.items) (verify.NotProved index)) c.requires rejected in
    IfOk-weaker c.not_proved.result _ _
    (λ reply is. tells_not_proved c.args.proved.now.end p index c.line_of.result reply.status reply.text.items given own (rw c.deref.ensures.value at c.line_of.ensures) is)
    c.not_proved.ensures
