use Rattle.std.proofs.Common.{rules, append_assoc}
use Rattle.std.proofs.lemmas.Result.{IfOk-equal}
use Rattle.crn_function_text.proofs.LinesWritten.{when_spelled}
use Rattle.crn_function_text.proofs.print.write_condition.Goals as goal

pub returns-clause-text : goal.returns-clause-text
returns-clause-text c = rw (when_spelled c.args.variables c.args.form.now) (search (rules, IfOk-equal, append_assoc))
