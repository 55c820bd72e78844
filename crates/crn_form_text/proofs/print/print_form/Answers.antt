use Rattle.std.proofs.Common.{string_bytes}
use Rattle.std.proofs.lemmas.Result.{on_ok_weaker}
use Rattle.crn_form_text.proofs.WrittenLaws.{form_written}
use Rattle.crn_form_text.proofs.print.print_form.Goals as goal

pub returns-clause-text : goal.returns-clause-text
returns-clause-text c =
    on_ok_weaker c.write_constant.result
    (form_written (string_bytes c.args.out.now) (string_bytes c.write_variables.new.out) (string_bytes c.write_constant.new.out) c.in_ok-first.first c.args.variables c.args.form.now c.constant_of.result
    c.in_ok-first.ensures.text c.in_ok-first.ensures.first c.constant_of.ensures)
    c.write_constant.ensures.text
