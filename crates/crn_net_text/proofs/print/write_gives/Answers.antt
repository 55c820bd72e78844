use Rattle.std.proofs.Common.{rules, sym}
use Rattle.std.proofs.lemmas.Result.{IfOk-equal}
use Rattle.crn_net_text.proofs.Printing.{none_given}
use Rattle.crn_net_text.proofs.print.write_gives.Goals as goal

pub returns-in-empty-clause-text : goal.returns-in-empty-clause-text
returns-in-empty-clause-text c =
    let nothing = none_given c.args.parts.now c.in-empty.len_below in
    rw (sym nothing) (search (rules, IfOk-equal))
