use Rattle.std.proofs.Common.{subst}
use Rattle.crn_token.specs.Plain.{line_number, end_of}
use Rattle.crn_grammar.specs.Part.{IsPartAnswer}
use Rattle.crn_grammar.specs.Reading.{GivesUpTo}
use Rattle.crn_grammar.proofs.RightParts.{part_answer_is, part_is}
use Rattle.crn_grammar.proofs.Turns.{right_up_to_given}
use Rattle.crn_net.specs.Network.{Network}
use Rattle.crn_net_text.specs.Grammar.{network_table, goes_on, part_of_lines}
use Rattle.crn_net_text.proofs.Kept.{network_can_end}
use Rattle.crn_net_text.proofs.read_network_part.Goals as goal

pub returns-clause-part : goal.returns-clause-part
returns-clause-part g c =
    let bytes = c.args.bytes.now in
    let lines = g.S.LineSource.left c.args.source.now in
    right_up_to_given (λ (n : Network). n) _ (IsPartAnswer network_table goes_on line_number (end_of bytes) lines) c.read_part.result (part_of_lines bytes lines) c.read_part.ensures.answer
    (part_answer_is network_table goes_on line_number (end_of bytes) network_can_end lines)

pub returns-clause-read : goal.returns-clause-read
returns-clause-read g c net rest is =
    let bytes = c.args.bytes.now in
    let lines = g.S.LineSource.left c.args.source.now in
    subst (GivesUpTo (λ (n : Network). n) _ c.read_part.result) (part_is network_table goes_on line_number (end_of bytes) lines net rest is) c.read_part.ensures.answer
