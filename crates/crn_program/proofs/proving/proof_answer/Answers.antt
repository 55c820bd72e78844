use Rattle.std.proofs.Common.{refl, subst}
use Rattle.std.proofs.lemmas.Result.{IfOk-weaker}
use Rattle.crn_cert_text.specs.Proofs.{IsProof}
use Rattle.crn_cert_text.specs.ProvedText.{proved_text, printed_proof}
use Rattle.crn_cert_text.specs.Views.{lines_of_proof}
use Rattle.crn_compile.specs.declared.CompileError.TheVariants as cause
use Rattle.crn_function_text.specs.Reading.{function_of}
use Rattle.crn_grammar.specs.Table.{Read}
use Rattle.crn_pieces.specs.Answers.{AreChecked}
use Rattle.crn_pieces.specs.Views.{pieces_in}
use Rattle.crn_program.specs.Finding.{Proved}
use Rattle.crn_program.specs.Proving.{IsUnprovable}
use Rattle.crn_program.specs.Texts.{IsProvedAnswer}
use Rattle.crn_program.proofs.ToldOfPieces.{tells_unproved}
use Rattle.crn_program.proofs.proving.proof_answer.Goals as goal

pub returns-in_ok-print_proved-in-Ok : goal.returns-in_ok-print_proved-in-Ok
returns-in_ok-print_proved-in-Ok c =
    let g = c.args.checked.now in
    let f = function_of g in
    let lines = lines_of_proof c.in-Ok.proof.lines.items in
    let end = c.in_ok-print_proved-in-Ok.ensures in
    record {
      what = Proved f lines;
      found = (
        refl,
        record {
          pieces = c.requires.pieces;
          checked = subst (λ d. AreChecked d (pieces_in g)) c.requires.domain c.requires.checked;
          proof = subst (λ d. IsProof d (pieces_in g) lines) c.requires.domain c.in-Ok.ensures.proof;
          reads_back = subst (λ t. IsProvedAnswer t (Read (printed_proof f lines))) end.text (end.spells, end.limits);
        },
      );
      status_is = refl;
      text_is = end.text;
    }

pub returns-in-Err-TooBig : goal.returns-in-Err-TooBig
returns-in-Err-TooBig c =
    let g = c.args.checked.now in
    let stopped = rw (c.in-Err-TooBig.is, c.in-Err-TooBig.field-0-is) at c.make_proof.ensures in
    let own = subst (λ d. IsUnprovable d (pieces_in g) (cause.TooBig c.in-Err-TooBig.system)) c.requires.domain (c.requires.checked.prepared, stopped.0, stopped.1) in
    IfOk-weaker c.refused_function.result _ _
    (λ reply is. tells_unproved (function_of g) c.args.variables (cause.TooBig c.in-Err-TooBig.system) reply.status reply.text.items c.requires.pieces c.requires.variables own is)
    c.refused_function.ensures

pub returns-in-Err-TooManyRows : goal.returns-in-Err-TooManyRows
returns-in-Err-TooManyRows c =
    let g = c.args.checked.now in
    let stopped = rw (c.in-Err-TooManyRows.is, c.in-Err-TooManyRows.field-0-is) at c.make_proof.ensures in
    let own = subst (λ d. IsUnprovable d (pieces_in g) (cause.TooManyRows c.in-Err-TooManyRows.system)) c.requires.domain (c.requires.checked.prepared, stopped.0, stopped.1) in
    IfOk-weaker c.refused_function-in-Err-TooManyRows.result _ _
    (λ reply is. tells_unproved (function_of g) c.args.variables (cause.TooManyRows c.in-Err-TooManyRows.system) reply.status reply.text.items c.requires.pieces c.requires.variables own is)
    c.refused_function-in-Err-TooManyRows.ensures
