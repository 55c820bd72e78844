use Rattle.std.proofs.Common.{drop, ap₂, subst}
use Rattle.crn_token.specs.Plain.{plain_lines, line_number, end_of}
use Rattle.crn_grammar.specs.Table.{IsAnswer}
use Rattle.crn_grammar.specs.Reading.{Gives}
use Rattle.crn_grammar.proofs.TableLaws.{answer_is, read_is}
use Rattle.crn_grammar.proofs.Turns.{right_given}
use Rattle.crn_job.specs.Grammar.{tail_table, tail_answer, lines_answer}
use Rattle.crn_job.specs.Reading.{value_of}
use Rattle.crn_job.proofs.JobLaws.{tail_places_can_end}
use Rattle.crn_job.proofs.read_job_tail.Goals as goal

-- the lines of the source are those from the line on
gives : (c : goal.After-read_lines) → Gives value_of c.read_lines.result (tail_answer c.args.rails c.args.inputs c.args.bytes.now c.args.from)
gives c =
    subst (Gives value_of c.read_lines.result) (ap₂ (λ n t. lines_answer c.args.rails c.args.inputs c.args.bytes.now (drop n (plain_lines t))) c.new-source.ensures.index c.new-source.ensures.text)
    c.read_lines.ensures.answer

pub returns-clause-answer : goal.returns-clause-answer
returns-clause-answer c = gives c

pub returns-clause-part : goal.returns-clause-part
returns-clause-part c =
    let table = tail_table c.args.rails c.args.inputs in
    let end = end_of c.args.bytes.now in
    let lines = drop c.args.from (plain_lines c.args.bytes.now) in
    right_given value_of (IsAnswer table line_number end lines) c.read_lines.result (tail_answer c.args.rails c.args.inputs c.args.bytes.now c.args.from) (gives c)
    (answer_is table (tail_places_can_end c.args.rails c.args.inputs) line_number end lines)

pub returns-clause-read : goal.returns-clause-read
returns-clause-read c v text low =
    subst (Gives value_of c.read_lines.result) (read_is (tail_table c.args.rails c.args.inputs) line_number (end_of c.args.bytes.now) (drop c.args.from (plain_lines c.args.bytes.now)) v text low) (gives c)
