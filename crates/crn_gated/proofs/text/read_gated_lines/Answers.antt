use Rattle.std.proofs.Common.{subst}
use Rattle.crn_token.specs.Plain.{plain_lines, line_number, end_of}
use Rattle.crn_grammar.specs.Part.{IsPartAnswer}
use Rattle.crn_grammar.specs.Reading.{GivesPart}
use Rattle.crn_grammar.proofs.RightParts.{part_answer_is, part_is}
use Rattle.crn_grammar.proofs.Turns.{right_part_given}
use Rattle.crn_gated.specs.Grammar.{gated_table, goes_on, gated_part}
use Rattle.crn_gated.specs.Reading.{gated_of}
use Rattle.crn_gated.proofs.GrammarLaws.{gated_can_end}
use Rattle.crn_gated.proofs.text.read_gated_lines.Goals as goal

pub returns-clause-part : goal.returns-clause-part
returns-clause-part c =
    let lines = plain_lines c.args.bytes.now in
    let end = end_of c.args.bytes.now in
    right_part_given gated_of lines (IsPartAnswer gated_table goes_on line_number end lines) c.read_from.result (gated_part c.args.bytes.now) c.read_from.ensures.answer
    (part_answer_is gated_table goes_on line_number end gated_can_end lines)

pub returns-clause-read : goal.returns-clause-read
returns-clause-read c f rest is =
    let lines = plain_lines c.args.bytes.now in
    subst (GivesPart gated_of lines c.read_from.result) (part_is gated_table goes_on line_number (end_of c.args.bytes.now) lines f rest is) c.read_from.ensures.answer
