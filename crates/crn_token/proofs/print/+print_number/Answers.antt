use Rattle.std.proofs.Common.{arith}
use Rattle.std.proofs.lemmas.Result.{on_ok_weaker}
use Rattle.crn_token.proofs.Printing.{prints_digit, prints_digits}
use Rattle.crn_token.proofs.print.+print_number.Goals as goal

pub returns-then-number-lt10 : goal.returns-then-number-lt10
returns-then-number-lt10 t c = on_ok_weaker c.print_digit.result (λ e. prints_digit _ _ _ c.if-number-lt10.true e) c.print_digit.ensures

pub returns : goal.returns
returns t c = on_ok_weaker c.print_digit-2.result (λ e. prints_digits _ _ _ _ (omega (arith, c.if-number-lt10.false)) c.ranges.number.fits c.in_ok-print_number.ensures e) c.print_digit-2.ensures
