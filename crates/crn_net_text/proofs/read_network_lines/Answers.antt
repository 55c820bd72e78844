use Rattle.std.proofs.Common.{subst}
use Rattle.crn_token.specs.Plain.{plain_lines, line_number, end_of}
use Rattle.crn_grammar.specs.Part.{IsPartAnswer}
use Rattle.crn_grammar.specs.Reading.{GivesPart}
use Rattle.crn_grammar.proofs.RightParts.{part_answer_is, part_is}
use Rattle.crn_grammar.proofs.Turns.{right_part_given}
use Rattle.crn_net.specs.Network.{Network}
use Rattle.crn_net_text.specs.Grammar.{network_table, goes_on, network_part}
use Rattle.crn_net_text.proofs.Kept.{network_can_end}
use Rattle.crn_net_text.proofs.read_network_lines.Goals as goal

pub returns-clause-part : goal.returns-clause-part
returns-clause-part c =
    let lines = plain_lines c.args.bytes.now in
    let end = end_of c.args.bytes.now in
    right_part_given (λ (n : Network). n) lines (IsPartAnswer network_table goes_on line_number end lines) c.read_from.result (network_part c.args.bytes.now) c.read_from.ensures.answer
    (part_answer_is network_table goes_on line_number end network_can_end lines)

pub returns-clause-read : goal.returns-clause-read
returns-clause-read c net rest is =
    let lines = plain_lines c.args.bytes.now in
    subst (GivesPart (λ (n : Network). n) lines c.read_from.result) (part_is network_table goes_on line_number (end_of c.args.bytes.now) lines net rest is) c.read_from.ensures.answer
