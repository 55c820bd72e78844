use Rattle.std.proofs.Common.{◌≤◌, length, subst}
use Rattle.crn_segments.proofs.Least.{listed_in_range, least_all}
use Rattle.crn_segments.proofs.work.Sums.least_refused.Goals as goal

pub refusal_of-requires-clause-low : goal.refusal_of-requires-clause-low
refusal_of-requires-clause-low c =
    (listed_in_range c.args.count c.args.self.now c.requires.room c.deref-species-items.result.now c.loop-species.species-index c.deref-species-items.ensures.value c.loop-species-test.true).0

pub returns : goal.returns
returns c =
    least_all c.args.count c.args.self.now c.loop-species.species-index c.loop-species.least c.requires.room
    (subst (λ xs. length xs ≤ c.loop-species.species-index) c.deref-species-items.ensures.value c.loop-species-test.false) c.loop-species.invariant
