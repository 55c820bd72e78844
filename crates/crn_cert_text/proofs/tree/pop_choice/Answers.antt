use Rattle.std.proofs.Common.{◌∙◌, arith}
use Rattle.crn_cert_text.proofs.TreeSteps.{rows_less}
use Rattle.crn_cert_text.proofs.tree.pop_choice.Goals as goal

pub returns : goal.returns
returns c = λ before own h e. c.truncate.ensures.items ∙ rows_less before own c.args.rows.now.items c.args.k _ h e (omega arith)
