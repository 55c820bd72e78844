use Rattle.std.proofs.Common.{arith, ap₂, ◌∙◌, ◌≡◌, to_z, of_z}
use Rattle.std.specs.Prelude.{ℤ, ◌+ℤ◌, ◌*ℤ◌}
use Rattle.std.specs.Int.{w64}
use Rattle.std.proofs.lemmas.Int.{ints, to_z-of_z}
use Rattle.crn_feasible.proofs.numbers.short_mix.Goals as goal

pub returns-clause-value : goal.returns-clause-value
returns-clause-value c =
    let left : ℤ = c.short_product-left.result in
    let right : ℤ = c.short_product-right.result in
    let sum : to_z w64 (of_z w64 (to_z w64 (of_z w64 left) +ℤ to_z w64 (of_z w64 right))) ≡ left +ℤ right =
    omega (arith, ints, c.short_product-left.ensures.small, c.short_product-right.ensures.small) in
    sum
    ∙ ap₂ (λ s t. s +ℤ t)
    (c.short_product-left.ensures.value ∙ ap₂ (λ s t. s *ℤ t) (to_z-of_z w64 c.args.a c.ranges.a) (to_z-of_z w64 c.args.x c.ranges.x))
    (c.short_product-right.ensures.value ∙ ap₂ (λ s t. s *ℤ t) (to_z-of_z w64 c.args.b c.ranges.b) (to_z-of_z w64 c.args.y c.ranges.y))
