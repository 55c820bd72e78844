use Rattle.std.proofs.Common.{drop, sym, subst, ◌∙◌, ap}
use Rattle.crn_token.specs.Plain.{plain_line}
use Rattle.crn_grammar.specs.Reading.{Refuses}
use Rattle.crn_grammar.proofs.Turns.{passed_on}
use Rattle.crn_gated.specs.Grammar.{gated_answer, lines_answer}
use Rattle.crn_gated.specs.Reading.{gated_of}
use Rattle.crn_gated.proofs.Steps.{text_read, text_goes_on, text_refused}
use Rattle.crn_gated.proofs.text.read_text.Goals as goal

pub returns-in-Some-clause-answer : goal.returns-in-Some-clause-answer
returns-in-Some-clause-answer c =
    let bytes = c.args.bytes.now in
    let left = c.read_part.new.source.left in
    ap (lines_answer bytes) (sym c.in_ok-source.ensures.left)
    ∙ text_goes_on bytes c.in_ok-source.source.left left (gated_of c.in_ok-function.function) (plain_line c.read_part.new.source.text c.in-Some.line.now) (drop 1 left) c.in_ok-function.ensures.answer c.in-Some.ensures

pub returns-clause-answer : goal.returns-clause-answer
returns-clause-answer c =
    let bytes = c.args.bytes.now in
    ap (lines_answer bytes) (sym c.in_ok-source.ensures.left)
    ∙ text_read bytes c.in_ok-source.source.left c.read_part.new.source.left (gated_of c.in_ok-function.function) c.in_ok-function.ensures.answer c.in_default.ensures

pub returns-in_err-function-clause-answer : goal.returns-in_err-function-clause-answer
returns-in_err-function-clause-answer c =
    let bytes = c.args.bytes.now in
    let e = c.in_err-function.field-0.0 in
    passed_on gated_of c.from_residual-in_err-function.result e (gated_answer bytes) c.from_residual-in_err-function.ensures.1
    (subst (λ lines. Refuses e (lines_answer bytes lines)) c.in_ok-source.ensures.left (text_refused bytes c.in_ok-source.source.left e c.in_err-function.ensures.answer))
