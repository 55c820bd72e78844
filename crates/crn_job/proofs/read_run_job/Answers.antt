use Rattle.std.proofs.Common.{subst}
use Rattle.crn_token.specs.Plain.{plain_lines, line_number, end_of}
use Rattle.crn_grammar.specs.Table.{IsAnswer}
use Rattle.crn_grammar.specs.Reading.{Gives}
use Rattle.crn_grammar.proofs.TableLaws.{answer_is, read_is}
use Rattle.crn_grammar.proofs.Turns.{right_given}
use Rattle.crn_job.specs.RunGrammar.{run_table, run_answer}
use Rattle.crn_job.specs.Reading.{run_job_of}
use Rattle.crn_job.proofs.RunLaws.{run_places_can_end}
use Rattle.crn_job.proofs.read_run_job.Goals as goal

pub returns-clause-answer : goal.returns-clause-answer
returns-clause-answer c =
    right_given run_job_of (IsAnswer run_table line_number (end_of c.args.bytes.now) (plain_lines c.args.bytes.now)) c.read_run_text.result (run_answer c.args.bytes.now) c.read_run_text.ensures.answer
    (answer_is run_table run_places_can_end line_number (end_of c.args.bytes.now) (plain_lines c.args.bytes.now))

pub returns-clause-read : goal.returns-clause-read
returns-clause-read c job text low =
    subst (Gives run_job_of c.read_run_text.result) (read_is run_table line_number (end_of c.args.bytes.now) (plain_lines c.args.bytes.now) job text low) c.read_run_text.ensures.answer
