use Rattle.std.proofs.Common.{◌++◌, ◌&&◌, ◌∙◌, ap, subst, arith, string_bytes, take}
use Rattle.crn_token.specs.Printed.{spelled}
use Rattle.crn_fraction.specs.Rational.{is_zero_ℚ}
use Rattle.crn_fraction.specs.Frac.{IsFrac}
use Rattle.crn_form_text.specs.Written.{variable_items}
use Rattle.crn_form_text.proofs.WrittenLaws.{AreWritten, none_written, variables_step, all_written}
use Rattle.crn_form_text.proofs.print.write_variables.Goals as goal

pub loop-column-init : goal.loop-column-init
loop-column-init c = (omega arith, none_written (string_bytes c.args.out.now))

pub loop-column-preserved : goal.loop-column-preserved
loop-column-preserved c = (
  omega (arith, c.loop-column-test.true, c.min-column-end.ensures),
  variables_step (string_bytes c.args.out.now) (string_bytes c.loop-column.out) (string_bytes c.write_next.new.out) c.loop-column.first c.in_ok-first.first c.args.form.now c.loop-column.column
      (omega (arith, c.loop-column-test.true, c.min-column-end.ensures, c.len.ensures.value))
      c.loop-column.invariant.1
      (c.in_ok-first.ensures.text ∙ ap (λ q. string_bytes c.loop-column.out ++ spelled (variable_items c.loop-column.first c.loop-column.column q)) c.coeff.ensures)
      (c.in_ok-first.ensures.first ∙ ap (λ q. c.loop-column.first && is_zero_ℚ q) c.coeff.ensures)
      (subst IsFrac c.coeff.ensures c.in_ok-first.ensures.fits),
)

written : (c : goal.After-loop-column) → AreWritten (string_bytes c.args.out.now) (string_bytes c.loop-column.out) c.loop-column.first (take c.args.variables c.args.form.now)
written c =
    all_written (string_bytes c.args.out.now) (string_bytes c.loop-column.out) c.loop-column.first c.args.form.now c.loop-column.column c.args.variables
    c.loop-column.invariant.0 (λ less. omega (arith, less, c.loop-column-test.false, c.min-column-end.ensures, c.len.ensures.value)) c.loop-column.invariant.1

pub returns-clause-text : goal.returns-clause-text
returns-clause-text c = (written c).text

pub returns-clause-first : goal.returns-clause-first
returns-clause-first c = (written c).first

pub returns-clause-fits : goal.returns-clause-fits
returns-clause-fits c = (written c).fits
