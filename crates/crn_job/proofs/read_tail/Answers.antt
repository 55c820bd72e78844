use Rattle.std.proofs.Common.{subst}
use Rattle.crn_token.specs.Plain.{line_number, end_of}
use Rattle.crn_grammar.specs.Table.{IsAnswer}
use Rattle.crn_grammar.specs.Reading.{Gives}
use Rattle.crn_grammar.proofs.TableLaws.{answer_is, read_is}
use Rattle.crn_grammar.proofs.Turns.{right_given}
use Rattle.crn_job.specs.Grammar.{tail_table, lines_answer}
use Rattle.crn_job.specs.Reading.{value_of}
use Rattle.crn_job.proofs.JobLaws.{tail_places_can_end}
use Rattle.crn_job.proofs.read_tail.Goals as goal

pub returns-clause-part : goal.returns-clause-part
returns-clause-part g c =
    let table = tail_table c.args.rails c.args.inputs in
    let bytes = c.args.bytes.now in
    let lines = g.S.LineSource.left c.args.source.now in
    right_given value_of (IsAnswer table line_number (end_of bytes) lines) c.read_lines.result (lines_answer c.args.rails c.args.inputs bytes lines) c.read_lines.ensures.answer
    (answer_is table (tail_places_can_end c.args.rails c.args.inputs) line_number (end_of bytes) lines)

pub returns-clause-read : goal.returns-clause-read
returns-clause-read g c v text low =
    subst (Gives value_of c.read_lines.result) (read_is (tail_table c.args.rails c.args.inputs) line_number (end_of c.args.bytes.now) (g.S.LineSource.left c.args.source.now) v text low) c.read_lines.ensures.answer
