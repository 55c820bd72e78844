use Rattle.std.proofs.Common.{◌∙◌, ap₂}
use Rattle.std.specs.Prelude.{◌+ℤ◌, ◌*ℤ◌}
use Rattle.std.specs.Int.{w64}
use Rattle.std.proofs.lemmas.Int.{to_z-of_z}
use Rattle.crn_feasible.proofs.Commons.{cast_sum}
use Rattle.crn_feasible.proofs.numbers.mix.Goals as goal

pub returns-clause-value : goal.returns-clause-value
returns-clause-value c =
    cast_sum c.product-left.result c.product-right.result c.product-left.ensures.small c.product-right.ensures.small
    ∙ ap₂ (λ s t. s +ℤ t)
    (c.product-left.ensures.value ∙ ap₂ (λ s t. s *ℤ t) (to_z-of_z w64 c.args.a c.ranges.a) (to_z-of_z w64 c.args.x c.ranges.x))
    (c.product-right.ensures.value ∙ ap₂ (λ s t. s *ℤ t) (to_z-of_z w64 c.args.b c.ranges.b) (to_z-of_z w64 c.args.y c.ranges.y))
