use Rattle.std.proofs.Common.{◌++◌, ◌∙◌, ap, sym, subst, string_bytes, take_all, append-nil, arith, map}
use Rattle.std.specs.Prelude.{All}
use Rattle.crn_token.specs.Printed.{printed}
use Rattle.crn_form_text.specs.Printing.{AreFracsOf}
use Rattle.crn_function_text.specs.Printing.{when_line}
use Rattle.crn_function_text.proofs.LinesWritten.{line_step, all_step}
use Rattle.crn_function_text.proofs.print.write_conditions.Goals as goal

pub loop-condition-init : goal.loop-condition-init
loop-condition-init c = (sym (append-nil (string_bytes c.args.out.now)), λ i d within. absurd (omega arith))

pub loop-condition-preserved : goal.loop-condition-preserved
loop-condition-preserved c = (
  line_step (when_line c.args.variables) (string_bytes c.args.out.now) (string_bytes c.loop-condition.out) (string_bytes c.write_condition.new.out) c.args.conditions.now c.loop-condition.condition-index c.condition-item.result
      c.loop-condition-test.true c.condition-item.is c.loop-condition.invariant.0 c.in_ok-write_condition.ensures.text,
  all_step (AreFracsOf c.args.variables) c.args.conditions.now c.loop-condition.condition-index c.condition-item.result c.loop-condition-test.true c.condition-item.is c.loop-condition.invariant.1 c.in_ok-write_condition.ensures.fits,
)

pub returns-clause-text : goal.returns-clause-text
returns-clause-text c = c.loop-condition.invariant.0 ∙ ap (λ xs. string_bytes c.args.out.now ++ printed (map (when_line c.args.variables) xs)) (take_all c.loop-condition.condition-index c.args.conditions.now (omega (arith, c.loop-condition-test.false)))

pub returns-clause-fits : goal.returns-clause-fits
returns-clause-fits c = subst (All (AreFracsOf c.args.variables)) (take_all c.loop-condition.condition-index c.args.conditions.now (omega (arith, c.loop-condition-test.false))) c.loop-condition.invariant.1
