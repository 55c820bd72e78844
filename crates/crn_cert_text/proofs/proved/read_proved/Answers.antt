use Rattle.std.proofs.Common.{subst}
use Rattle.crn_token.specs.Plain.{plain_lines, line_number, end_of}
use Rattle.crn_grammar.specs.Table.{IsAnswer}
use Rattle.crn_grammar.specs.Reading.{Gives}
use Rattle.crn_grammar.proofs.TableLaws.{answer_is, read_is}
use Rattle.crn_grammar.proofs.Turns.{right_given}
use Rattle.crn_cert_text.specs.ProvedText.{proved_table, proved_answer, proved_of}
use Rattle.crn_cert_text.proofs.ReadTexts.{proved_can_end}
use Rattle.crn_cert_text.proofs.proved.read_proved.Goals as goal

pub returns-clause-answer : goal.returns-clause-answer
returns-clause-answer c =
    right_given proved_of (IsAnswer proved_table line_number (end_of c.args.bytes.now) (plain_lines c.args.bytes.now)) c.read_text.result (proved_answer c.args.bytes.now) c.read_text.ensures.answer
    (answer_is proved_table proved_can_end line_number (end_of c.args.bytes.now) (plain_lines c.args.bytes.now))

pub returns-clause-read : goal.returns-clause-read
returns-clause-read c p text low =
    subst (Gives proved_of c.read_text.result) (read_is proved_table line_number (end_of c.args.bytes.now) (plain_lines c.args.bytes.now) p text low) c.read_text.ensures.answer
