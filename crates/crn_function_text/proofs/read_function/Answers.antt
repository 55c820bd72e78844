use Rattle.std.proofs.Common.{subst}
use Rattle.crn_token.specs.Plain.{plain_lines, line_number, end_of}
use Rattle.crn_grammar.specs.Table.{IsAnswer}
use Rattle.crn_grammar.specs.Reading.{Gives}
use Rattle.crn_grammar.proofs.TableLaws.{answer_is, read_is}
use Rattle.crn_grammar.proofs.Turns.{right_given}
use Rattle.crn_function_text.specs.Grammar.{function_table, function_answer}
use Rattle.crn_function_text.specs.Reading.{function_of}
use Rattle.crn_function_text.proofs.GrammarLaws.{function_can_end}
use Rattle.crn_function_text.proofs.read_function.Goals as goal

pub returns-clause-answer : goal.returns-clause-answer
returns-clause-answer c =
    right_given function_of (IsAnswer function_table line_number (end_of c.args.bytes.now) (plain_lines c.args.bytes.now)) c.read_text.result (function_answer c.args.bytes.now) c.read_text.ensures.answer
    (answer_is function_table function_can_end line_number (end_of c.args.bytes.now) (plain_lines c.args.bytes.now))

pub returns-clause-read : goal.returns-clause-read
returns-clause-read c f text low =
    subst (Gives function_of c.read_text.result) (read_is function_table line_number (end_of c.args.bytes.now) (plain_lines c.args.bytes.now) f text low) c.read_text.ensures.answer
