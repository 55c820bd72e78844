use Rattle.std.proofs.Common.{rules, sym, ◌∙◌}
use Rattle.std.proofs.lemmas.Result.{IfOk-equal}
use Rattle.crn_form_text.proofs.WrittenLaws.{zero_written}
use Rattle.crn_form_text.proofs.print.write_constant.Goals as goal

pub returns-then-first-clause-text : goal.returns-then-first-clause-text
returns-then-first-clause-text c =
    let zero = zero_written c.args.first c.args.value c.if-first.true (sym c.is_zero.ensures.value ∙ c.if-not-is_zero.false) in
    rw (sym zero) (search (rules, IfOk-equal))
