use Rattle.std.proofs.Common.{subst}
use Rattle.crn_token.specs.Plain.{plain_lines, line_number, end_of}
use Rattle.crn_grammar.specs.Table.{IsAnswer}
use Rattle.crn_grammar.specs.Reading.{Gives}
use Rattle.crn_grammar.proofs.TableLaws.{answer_is, read_is}
use Rattle.crn_grammar.proofs.Turns.{right_given}
use Rattle.crn_function_text.specs.Two.{two_table, two_answer, two_of}
use Rattle.crn_function_text.proofs.TwoLaws.{two_can_end}
use Rattle.crn_function_text.proofs.read_two_functions.Goals as goal

pub returns-clause-answer : goal.returns-clause-answer
returns-clause-answer c =
    right_given two_of (IsAnswer two_table line_number (end_of c.args.bytes.now) (plain_lines c.args.bytes.now)) c.read_two.result (two_answer c.args.bytes.now) c.read_two.ensures.answer
    (answer_is two_table two_can_end line_number (end_of c.args.bytes.now) (plain_lines c.args.bytes.now))

pub returns-clause-read : goal.returns-clause-read
returns-clause-read c both text low =
    subst (Gives two_of c.read_two.result) (read_is two_table line_number (end_of c.args.bytes.now) (plain_lines c.args.bytes.now) both text low) c.read_two.ensures.answer
