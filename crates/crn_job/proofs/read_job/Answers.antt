use Rattle.std.proofs.Common.{subst}
use Rattle.crn_token.specs.Plain.{plain_lines, line_number, end_of}
use Rattle.crn_grammar.specs.Table.{IsAnswer}
use Rattle.crn_grammar.specs.Reading.{Gives}
use Rattle.crn_grammar.proofs.TableLaws.{answer_is, read_is}
use Rattle.crn_grammar.proofs.Turns.{right_given}
use Rattle.crn_job.specs.Grammar.{job_table, job_answer}
use Rattle.crn_job.specs.Reading.{job_of}
use Rattle.crn_job.proofs.JobLaws.{job_places_can_end}
use Rattle.crn_job.proofs.read_job.Goals as goal

pub returns-clause-answer : goal.returns-clause-answer
returns-clause-answer c =
    right_given job_of (IsAnswer job_table line_number (end_of c.args.bytes.now) (plain_lines c.args.bytes.now)) c.read_text.result (job_answer c.args.bytes.now) c.read_text.ensures.answer
    (answer_is job_table job_places_can_end line_number (end_of c.args.bytes.now) (plain_lines c.args.bytes.now))

pub returns-clause-read : goal.returns-clause-read
returns-clause-read c job text low =
    subst (Gives job_of c.read_text.result) (read_is job_table line_number (end_of c.args.bytes.now) (plain_lines c.args.bytes.now) job text low) c.read_text.ensures.answer
