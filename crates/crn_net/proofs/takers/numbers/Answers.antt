use Rattle.std.proofs.Common.{arith, rules, length, ◌-◌}
use Rattle.crn_net.proofs.TakersTable.{filled_first, filled_read, read_fits}
use Rattle.crn_net.proofs.takers.numbers.Goals as goal

pub loop-entry-init : goal.loop-entry-init
loop-entry-init c =
    (c.requires.entries, filled_first c.args.starts.now c.args.entries.now c.in_ok-next.next.items c.in_ok-numbers.numbers.items c.requires.some c.requires.starts c.in_ok-next.ensures.items (search rules))

pub index_mut-requires : goal.index_mut-requires
index_mut-requires c =
    omega (
      arith,
      read_fits (length c.args.starts.now - 1) c.args.starts.now c.args.entries.now (λ s h. c.requires.starts s (omega arith)) c.loop-entry.entry-index _ c.loop-entry-test.true c.loop-entry.invariant.0
          c.loop-entry.next.items c.loop-entry.numbers.items c.loop-entry.invariant.1 c.index.result.now c.index.ensures,
    )

pub overflow_add-index_mut : goal.overflow_add-index_mut
overflow_add-index_mut c =
    omega (
      arith,
      read_fits (length c.args.starts.now - 1) c.args.starts.now c.args.entries.now (λ s h. c.requires.starts s (omega arith)) c.loop-entry.entry-index _ c.loop-entry-test.true c.loop-entry.invariant.0
          c.loop-entry.next.items c.loop-entry.numbers.items c.loop-entry.invariant.1 c.index_mut-in-loop-entry.result.now c.index_mut-in-loop-entry.ensures.value,
    )

pub loop-entry-preserved : goal.loop-entry-preserved
loop-entry-preserved c =
    filled_read (length c.args.starts.now - 1) c.args.starts.now c.args.entries.now (λ s h. c.requires.starts s (omega arith)) c.loop-entry.entry-index _ c.loop-entry-test.true c.loop-entry.invariant.0
    c.loop-entry.next.items c.loop-entry.numbers.items c.loop-entry.invariant.1 c.index_mut-in-loop-entry.result.now c.index.result.now c.index_mut-in-loop-entry.ensures.value c.index.ensures
