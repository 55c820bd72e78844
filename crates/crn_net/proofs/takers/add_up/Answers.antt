use Rattle.std.proofs.Common.{arith, get_or, ◌-◌}
use Rattle.crn_net.proofs.TakersTable.{sum_step, summed_more}
use Rattle.crn_net.proofs.takers.add_up.Goals as goal

pub overflow_add-counts : goal.overflow_add-counts
overflow_add-counts c =
    omega (
      arith,
      c.loop-species.invariant.1 (c.loop-species.species - 1) (omega arith),
      c.loop-species.invariant.2 c.loop-species.species (omega arith),
      sum_step (λ k. get_or c.args.counts.now k 0) c.loop-species.species (omega arith),
      c.requires c.loop-species.species (omega arith),
    )

pub loop-species-preserved : goal.loop-species-preserved
loop-species-preserved c =
    summed_more c.loop-species.counts c.args.counts.now c.loop-species.species (omega arith) (omega arith) c.loop-species.invariant.0 c.loop-species.invariant.1 c.loop-species.invariant.2
