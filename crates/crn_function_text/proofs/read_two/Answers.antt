use Rattle.std.proofs.Common.{sym, subst, ◌∙◌, ap}
use Rattle.crn_grammar.specs.Followed.{answer_map}
use Rattle.crn_grammar.proofs.FollowedLaws.{refused_with}
use Rattle.crn_grammar.specs.Reading.{Refuses}
use Rattle.crn_grammar.proofs.Turns.{passed_on}
use Rattle.crn_function_text.specs.Grammar.{lines_answer}
use Rattle.crn_function_text.specs.Reading.{function_of}
use Rattle.crn_function_text.specs.Two.{two, two_answer, two_of}
use Rattle.crn_function_text.proofs.TwoLaws.{two_read, two_refused}
use Rattle.crn_function_text.proofs.read_two.Goals as goal

pub returns-clause-answer : goal.returns-clause-answer
returns-clause-answer c =
    let f = function_of c.in_ok-first.first in
    two_read c.args.bytes.now c.in_ok-source.source.left c.read_part.new.source.left f c.in_ok-source.ensures.left c.in_ok-first.ensures.answer ∙ ap (answer_map (two f)) c.in_ok-second.ensures.answer

pub returns-in_err-first-clause-answer : goal.returns-in_err-first-clause-answer
returns-in_err-first-clause-answer c =
    let e = c.in_err-first.field-0.0 in
    passed_on two_of c.from_residual-in_err-first.result e (two_answer c.args.bytes.now) c.from_residual-in_err-first.ensures.1
    (two_refused c.args.bytes.now c.in_ok-source.source.left e c.in_ok-source.ensures.left c.in_err-first.ensures.answer)

pub returns-in_err-second-clause-answer : goal.returns-in_err-second-clause-answer
returns-in_err-second-clause-answer c =
    let e = c.in_err-second.field-0.0 in
    let f = function_of c.in_ok-first.first in
    let left = c.read_part.new.source.left in
    passed_on two_of c.from_residual-in_err-second.result e (two_answer c.args.bytes.now) c.from_residual-in_err-second.ensures.1
    (subst (Refuses e) (sym (two_read c.args.bytes.now c.in_ok-source.source.left left f c.in_ok-source.ensures.left c.in_ok-first.ensures.answer)) (refused_with (two f) e (lines_answer c.args.bytes.now left) c.in_err-second.ensures.answer))
