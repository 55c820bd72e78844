use Rattle.std.proofs.Common.{◌∙◌, ap, sym, arith}
use Rattle.std.specs.Prelude.{pos}
use Rattle.crn_linear.specs.Cleared.{over}
use Rattle.crn_linear.specs.Views.{padded}
use Rattle.crn_linear.proofs.WholeRows.{over-as_is}
use Rattle.crn_linear.proofs.without_divisor.Goals as goal

pub returns-then-divisor-le1 : goal.returns-then-divisor-le1
returns-then-divisor-le1 c =
    c.nine.ensures ∙ ap (padded (pos 0)) (sym (over-as_is c.args.numbers.now (omega (arith, c.common-divisor.ensures.value, c.if-divisor-le1.true))))

pub returns : goal.returns
returns c = c.over.ensures ∙ ap (λ g. padded (pos 0) (over g c.args.numbers.now)) c.common-divisor.ensures.value
