use Rattle.std.proofs.Common.{arith}
use Rattle.std.proofs.lemmas.Result.{err_from_is_err_and}
use Rattle.crn_gates.proofs.FanCalls.{width_left}
use Rattle.crn_gates.specs.declared.Use.TheVariants.{Variable}
use Rattle.crn_gates.proofs.fan.with_copies.Goals as goal

pub loop-each-preserved : goal.loop-each-preserved
loop-each-preserved c = (
  c.in_ok-last.ensures.value.1,
  omega (arith, width_left c.args.variables c.args.uses.now c.loop-each.each-index (Variable 0) (omega arith), c.in_ok-last.ensures.value.0, c.width.ensures, c.loop-each.invariant.1),
)

pub returns-in_err-last-clause-too_large : goal.returns-in_err-last-clause-too_large
returns-in_err-last-clause-too_large c =
    let p = err_from_is_err_and c.from_residual.result c.from_residual.ensures.1 in
    rw (p.1, p.2) (
      c.in_err-last.ensures.too_large.0,
      omega (arith, width_left c.args.variables c.args.uses.now c.loop-each.each-index (Variable 0) (omega arith), c.in_err-last.ensures.too_large.1, c.width.ensures, c.loop-each.invariant.1),
    )
