use Rattle.std.proofs.Common.{sym, subst}
use Rattle.crn_grammar.specs.Reading.{Gives}
use Rattle.crn_grammar.proofs.Turns.{passed_on}
use Rattle.crn_function_text.specs.Reading.{function_of}
use Rattle.crn_job.specs.Grammar.{job_answer}
use Rattle.crn_job.specs.Reading.{job_of}
use Rattle.crn_job.proofs.JobLaws.{job_read, job_refused}
use Rattle.crn_job.proofs.read_text.Goals as goal

pub returns-clause-answer : goal.returns-clause-answer
returns-clause-answer c =
    subst (Gives job_of c.read_rest.result)
    (sym (job_read c.args.bytes.now c.in_ok-source.source.left c.read_function_part.new.source.left (function_of c.in_ok-function.function) c.in_ok-source.ensures.left c.in_ok-function.ensures.answer))
    c.read_rest.ensures.answer

pub returns-in_err-function-clause-answer : goal.returns-in_err-function-clause-answer
returns-in_err-function-clause-answer c =
    let e = c.in_err-function.field-0.0 in
    passed_on job_of c.from_residual-in_err-function.result e (job_answer c.args.bytes.now) c.from_residual-in_err-function.ensures.1
    (job_refused c.args.bytes.now c.in_ok-source.source.left e c.in_ok-source.ensures.left c.in_err-function.ensures.answer)
