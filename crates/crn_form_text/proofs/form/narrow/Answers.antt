use Rattle.std.proofs.Common.{arith}
use Rattle.crn_fraction.specs.Rational.{0ℚ}
use Rattle.crn_form_text.proofs.Places.{fill_next}
use Rattle.crn_form_text.proofs.form.narrow.Goals as goal

pub loop-i-preserved : goal.loop-i-preserved
loop-i-preserved c =
    fill_next 9 c.args.form.now c.loop-i.coeffs c.loop-i.i c.coeff.result 0ℚ (omega (arith, c.len.ensures.value, c.min-columns.ensures, c.loop-i-test.true))
    (omega (arith, c.len.ensures.value, c.len.ensures.columns.few, c.min-columns.ensures, c.loop-i-test.true)) c.loop-i.invariant c.coeff.ensures
