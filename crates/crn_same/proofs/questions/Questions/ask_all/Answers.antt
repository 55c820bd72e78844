use Rattle.std.proofs.Common.{◌∙◌, Err, ap, sym, subst, arith}
use Rattle.std.specs.Prelude.{IfErr}
use Rattle.std.proofs.lemmas.Result.{err_from_is_err_and}
use Rattle.crn_same.specs.Answers.{SetsStop}
use Rattle.crn_same.proofs.Walking.{stops_at, none_next, none_all}
use Rattle.crn_same.proofs.questions.Questions.ask_all.Goals as goal

pub returns-in_err-ask-clause-refused : goal.returns-in_err-ask-clause-refused
returns-in_err-ask-clause-refused c =
    let p = err_from_is_err_and c.from_residual.result c.from_residual.ensures.1 in
    subst (λ r. IfErr r (SetsStop c.args.domain.now c.args.form.now)) (sym (p.1 ∙ ap Err p.2))
    (stops_at c.args.domain.now c.args.form.now c.loop-index.index c.set.result.now _ (omega (arith, c.loop-index-test.true, c.sets-index-end.ensures)) c.set.ensures c.loop-index.invariant.nowhere c.in_err-ask.ensures.refused)

pub loop-index-preserved : goal.loop-index-preserved
loop-index-preserved c = record {
  nowhere =
      none_next c.args.domain.now c.args.form.now c.loop-index.index c.set.result.now (omega (arith, c.loop-index-test.true, c.sets-index-end.ensures)) c.set.ensures c.loop-index.invariant.nowhere c.in_ok-ask.ensures.nowhere;
  rows = c.in_ok-ask.ensures.rows;
}

pub returns-clause-nowhere : goal.returns-clause-nowhere
returns-clause-nowhere c = none_all c.args.domain.now c.args.form.now c.loop-index.index (omega (arith, c.loop-index-test.false, c.sets-index-end.ensures)) c.loop-index.invariant.nowhere
