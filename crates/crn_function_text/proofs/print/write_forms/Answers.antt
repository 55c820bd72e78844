use Rattle.std.proofs.Common.{◌++◌, ◌∙◌, ap, sym, subst, string_bytes, take_all, append-nil, arith, map}
use Rattle.std.specs.Prelude.{All}
use Rattle.crn_token.specs.Printed.{printed}
use Rattle.crn_form_text.specs.Printing.{AreFracsOf}
use Rattle.crn_function_text.specs.Printing.{form_line}
use Rattle.crn_function_text.proofs.LinesWritten.{line_step, all_step}
use Rattle.crn_function_text.proofs.print.write_forms.Goals as goal

pub loop-form-init : goal.loop-form-init
loop-form-init c = (sym (append-nil (string_bytes c.args.out.now)), λ i d within. absurd (omega arith))

pub loop-form-preserved : goal.loop-form-preserved
loop-form-preserved c = (
  line_step (form_line c.args.variables) (string_bytes c.args.out.now) (string_bytes c.loop-form.out) (string_bytes c.write_form.new.out) c.args.forms.now c.loop-form.form-index c.form-item.result
      c.loop-form-test.true c.form-item.is c.loop-form.invariant.0 c.in_ok-write_form.ensures.text,
  all_step (AreFracsOf c.args.variables) c.args.forms.now c.loop-form.form-index c.form-item.result c.loop-form-test.true c.form-item.is c.loop-form.invariant.1 c.in_ok-write_form.ensures.fits,
)

pub returns-clause-text : goal.returns-clause-text
returns-clause-text c = c.loop-form.invariant.0 ∙ ap (λ xs. string_bytes c.args.out.now ++ printed (map (form_line c.args.variables) xs)) (take_all c.loop-form.form-index c.args.forms.now (omega (arith, c.loop-form-test.false)))

pub returns-clause-fits : goal.returns-clause-fits
returns-clause-fits c = subst (All (AreFracsOf c.args.variables)) (take_all c.loop-form.form-index c.args.forms.now (omega (arith, c.loop-form-test.false))) c.loop-form.invariant.1
