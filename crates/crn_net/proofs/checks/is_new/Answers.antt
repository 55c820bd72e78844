use Rattle.std.proofs.Common.{◌∙◌, sym}
use Rattle.crn_net.proofs.InputLists.{new_more, apart_at}
use Rattle.crn_net.proofs.checks.is_new.Goals as goal

pub returns-then-not-avoids : goal.returns-then-not-avoids
returns-then-not-avoids c =
    (λ h. absurd (cc h), λ k. sym c.if-not-avoids.true ∙ c.avoids.ensures.1 (apart_at c.args.inputs.now c.loop-ends.ends-index c.args.species _ c.loop-ends-test.true k))

pub loop-ends-preserved : goal.loop-ends-preserved
loop-ends-preserved c =
    new_more c.args.inputs.now c.loop-ends.ends-index c.args.species _ c.loop-ends-test.true c.loop-ends.invariant (c.avoids.ensures.0 c.if-not-avoids.false)
