use Rattle.std.proofs.Common.{arith}
use Rattle.std.specs.Prelude.{pos}
use Rattle.crn_linear.proofs.Padding.{padding_step}
use Rattle.crn_feasible.proofs.Turns.{itself}
use Rattle.crn_feasible.proofs.rows.entries_of.Goals as goal

pub loop-column-preserved : goal.loop-column-preserved
loop-column-preserved c =
    let long = c.len-column-end.ensures.value in
    let columns = c.len-column-end.ensures.columns in
    padding_step (pos 0) c.args.row.now.entries c.loop-column.places c.loop-column.column _ (omega (arith, long, c.loop-column-test.true)) columns.few
    (itself c.entry.result _ c.entry.ensures.small c.entry.ensures.value) c.loop-column.invariant
