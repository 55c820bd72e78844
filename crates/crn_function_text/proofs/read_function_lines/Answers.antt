use Rattle.std.proofs.Common.{drop, subst}
use Rattle.crn_token.specs.Plain.{plain_lines, line_number, end_of}
use Rattle.crn_grammar.specs.Part.{IsPartAnswer}
use Rattle.crn_grammar.specs.Reading.{GivesPart}
use Rattle.crn_grammar.proofs.RightParts.{part_answer_is, part_is}
use Rattle.crn_grammar.proofs.Turns.{right_part_given}
use Rattle.crn_function_text.specs.Grammar.{function_table, goes_on, function_part}
use Rattle.crn_function_text.specs.Reading.{function_of}
use Rattle.crn_function_text.proofs.GrammarLaws.{function_can_end}
use Rattle.crn_function_text.proofs.read_function_lines.Goals as goal

pub returns-clause-part : goal.returns-clause-part
returns-clause-part c =
    let lines = plain_lines c.args.bytes.now in
    let end = end_of c.args.bytes.now in
    let from = drop c.args.from lines in
    right_part_given function_of lines (IsPartAnswer function_table goes_on line_number end from) c.read_from.result (function_part c.args.bytes.now c.args.from) c.read_from.ensures.answer
    (part_answer_is function_table goes_on line_number end function_can_end from)

pub returns-clause-read : goal.returns-clause-read
returns-clause-read c f rest is =
    let lines = plain_lines c.args.bytes.now in
    subst (GivesPart function_of lines c.read_from.result) (part_is function_table goes_on line_number (end_of c.args.bytes.now) (drop c.args.from lines) f rest is) c.read_from.ensures.answer
