use Rattle.std.proofs.Common.{drop}
use Rattle.crn_token.specs.Plain.{plain_line}
use Rattle.crn_grammar.proofs.Turns.{passed_on}
use Rattle.crn_function_text.specs.Grammar.{lines_answer}
use Rattle.crn_function_text.specs.Reading.{function_of}
use Rattle.crn_function_text.proofs.Steps.{text_read, text_goes_on, text_refused}
use Rattle.crn_function_text.proofs.read_rest.Goals as goal

pub returns-in-Some-clause-answer : goal.returns-in-Some-clause-answer
returns-in-Some-clause-answer g c =
    let left = g.S.LineSource.left c.read_part.new.source in
    text_goes_on c.args.bytes.now (g.S.LineSource.left c.args.source.now) left (function_of c.in_ok-function.function) (plain_line (g.S.LineSource.text c.read_part.new.source) c.in-Some.line.now) (drop 1 left)
    c.in_ok-function.ensures.answer c.in-Some.ensures

pub returns-in-None-clause-answer : goal.returns-in-None-clause-answer
returns-in-None-clause-answer g c =
    text_read c.args.bytes.now (g.S.LineSource.left c.args.source.now) (g.S.LineSource.left c.read_part.new.source) (function_of c.in_ok-function.function) c.in_ok-function.ensures.answer c.in-None.ensures

pub returns-in_err-function-clause-answer : goal.returns-in_err-function-clause-answer
returns-in_err-function-clause-answer g c =
    let e = c.in_err-function.field-0.0 in
    let lines = g.S.LineSource.left c.args.source.now in
    passed_on function_of c.from_residual.result e (lines_answer c.args.bytes.now lines) c.from_residual.ensures.1 (text_refused c.args.bytes.now lines e c.in_err-function.ensures.answer)
