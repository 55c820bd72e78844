use Rattle.std.proofs.Common.{arith}
use Rattle.crn_net.proofs.TakersTable.{count_fits, counted_more}
use Rattle.crn_net.proofs.takers.counts.Goals as goal

pub overflow_add-index_mut : goal.overflow_add-index_mut
overflow_add-index_mut c =
    omega (
      arith,
      count_fits c.args.species c.loop-entry.counts.items c.args.entries.now c.loop-entry.entry-index _ c.index_mut.result.now c.loop-entry-test.true c.loop-entry.invariant.0
          c.loop-entry.invariant.1 c.loop-entry.invariant.2 c.index_mut.ensures.value,
    )

pub loop-entry-preserved : goal.loop-entry-preserved
loop-entry-preserved c =
    counted_more c.args.species c.loop-entry.counts.items c.args.entries.now c.loop-entry.entry-index _ c.index_mut.result.now c.loop-entry-test.true c.loop-entry.invariant.0
    c.loop-entry.invariant.1 c.loop-entry.invariant.2 c.index_mut.ensures.value
