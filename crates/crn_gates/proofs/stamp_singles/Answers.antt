use Rattle.std.proofs.Common.{subst, sym, arith}
use Rattle.crn_fraction.specs.Rational.{0ℚ, ◌<ℚ◌}
use Rattle.crn_fraction.proofs.Products.{num_of_positive}
use Rattle.crn_gates.proofs.stamp_singles.Goals as goal

pub stamp_rail-requires : goal.stamp_rail-requires
stamp_rail-requires c =
    num_of_positive c.loop-factor-item.result.0
    (subst (λ t. 0ℚ <ℚ t.0) (sym c.loop-factor-item.is) (c.requires c.loop-factor.factor-index c.loop-factor-item.result (omega arith)))
