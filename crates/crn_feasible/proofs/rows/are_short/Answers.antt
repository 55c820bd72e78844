use Rattle.std.proofs.Common.{subst}
use Rattle.std.specs.List.{All}
use Rattle.std.proofs.lemmas.List.{take_all}
use Rattle.std.proofs.lemmas.List.Elements.{All-more}
use Rattle.crn_feasible.specs.Steps.{IsShort}
use Rattle.crn_feasible.proofs.rows.are_short.Goals as goal

pub loop-row-preserved : goal.loop-row-preserved
loop-row-preserved c =
    All-more (IsShort c.args.columns) c.args.rows.now c.loop-row.row-index c.row-item.result c.loop-row-test.true c.loop-row.invariant
    (subst (IsShort c.args.columns) c.row-item.is (c.is_short.ensures c.if-not-is_short.false))

pub returns : goal.returns
returns c = λ t. subst (All (IsShort c.args.columns)) (take_all c.loop-row.row-index c.args.rows.now c.loop-row-test.false) c.loop-row.invariant
