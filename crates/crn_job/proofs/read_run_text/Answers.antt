use Rattle.std.proofs.Common.{sym, subst}
use Rattle.std.proofs.lemmas.Result.{IfOk-weaker}
use Rattle.crn_grammar.specs.Reading.{Gives}
use Rattle.crn_grammar.proofs.Turns.{passed_on}
use Rattle.crn_job.specs.RunGrammar.{run_answer}
use Rattle.crn_job.specs.Reading.{BeginsWithNetwork, run_job_of}
use Rattle.crn_job.proofs.RunLaws.{run_read, run_refused, begins_with}
use Rattle.crn_job.proofs.read_run_text.Goals as goal

pub returns-clause-answer : goal.returns-clause-answer
returns-clause-answer c =
    subst (Gives run_job_of c.read_run_rest.result)
    (sym (run_read c.args.bytes.now c.in_ok-source.source.left c.read_network_part.new.source.left c.in_ok-network.network c.in_ok-source.ensures.left c.in_ok-network.ensures.answer))
    c.read_run_rest.ensures.answer

pub returns-clause-network : goal.returns-clause-network
returns-clause-network c =
    let begins = begins_with c.args.bytes.now c.in_ok-source.source.left c.read_network_part.new.source.left c.in_ok-network.network c.in_ok-source.ensures.left c.in_ok-network.ensures.answer c.in_ok-network.ensures.part in
    IfOk-weaker c.read_run_rest.result _ _ (λ job same. subst (BeginsWithNetwork c.args.bytes.now) (sym same) begins) c.read_run_rest.ensures.network

pub returns-in_err-network-clause-answer : goal.returns-in_err-network-clause-answer
returns-in_err-network-clause-answer c =
    let e = c.in_err-network.field-0.0 in
    passed_on run_job_of c.from_residual-in_err-network.result e (run_answer c.args.bytes.now) c.from_residual-in_err-network.ensures.1
    (run_refused c.args.bytes.now c.in_ok-source.source.left e c.in_ok-source.ensures.left c.in_err-network.ensures.answer)
