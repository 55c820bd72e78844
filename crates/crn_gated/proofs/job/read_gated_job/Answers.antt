use Rattle.std.proofs.Common.{subst}
use Rattle.crn_token.specs.Plain.{plain_lines, line_number, end_of}
use Rattle.crn_grammar.specs.Table.{IsAnswer}
use Rattle.crn_grammar.specs.Reading.{Gives}
use Rattle.crn_grammar.proofs.TableLaws.{answer_is, read_is}
use Rattle.crn_grammar.proofs.Turns.{right_given}
use Rattle.crn_gated.specs.JobGrammar.{gated_job_table, gated_job_answer}
use Rattle.crn_gated.specs.Reading.{gated_job_of}
use Rattle.crn_gated.proofs.JobLaws.{gated_job_can_end}
use Rattle.crn_gated.proofs.job.read_gated_job.Goals as goal

pub returns-clause-answer : goal.returns-clause-answer
returns-clause-answer c =
    right_given gated_job_of (IsAnswer gated_job_table line_number (end_of c.args.bytes.now) (plain_lines c.args.bytes.now)) c.read_text.result (gated_job_answer c.args.bytes.now) c.read_text.ensures.answer
    (answer_is gated_job_table gated_job_can_end line_number (end_of c.args.bytes.now) (plain_lines c.args.bytes.now))

pub returns-clause-read : goal.returns-clause-read
returns-clause-read c job text low =
    subst (Gives gated_job_of c.read_text.result) (read_is gated_job_table line_number (end_of c.args.bytes.now) (plain_lines c.args.bytes.now) job text low) c.read_text.ensures.answer
