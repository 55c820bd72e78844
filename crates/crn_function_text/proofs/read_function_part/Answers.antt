use Rattle.std.proofs.Common.{subst}
use Rattle.crn_token.specs.Plain.{line_number, end_of}
use Rattle.crn_grammar.specs.Part.{IsPartAnswer}
use Rattle.crn_grammar.specs.Reading.{GivesUpTo}
use Rattle.crn_grammar.proofs.RightParts.{part_answer_is, part_is}
use Rattle.crn_grammar.proofs.Turns.{right_up_to_given}
use Rattle.crn_function_text.specs.Grammar.{function_table, goes_on, part_of_lines}
use Rattle.crn_function_text.specs.Reading.{function_of}
use Rattle.crn_function_text.proofs.GrammarLaws.{function_can_end}
use Rattle.crn_function_text.proofs.read_function_part.Goals as goal

pub returns-clause-part : goal.returns-clause-part
returns-clause-part g c =
    let bytes = c.args.bytes.now in
    let lines = g.S.LineSource.left c.args.source.now in
    let left = g.S.LineSource.left c.read_part.new.source in
    right_up_to_given function_of left (IsPartAnswer function_table goes_on line_number (end_of bytes) lines) c.read_part.result (part_of_lines bytes lines) c.read_part.ensures.answer
    (part_answer_is function_table goes_on line_number (end_of bytes) function_can_end lines)

pub returns-clause-read : goal.returns-clause-read
returns-clause-read g c f rest is =
    let left = g.S.LineSource.left c.read_part.new.source in
    subst (GivesUpTo function_of left c.read_part.result) (part_is function_table goes_on line_number (end_of c.args.bytes.now) (g.S.LineSource.left c.args.source.now) f rest is) c.read_part.ensures.answer
