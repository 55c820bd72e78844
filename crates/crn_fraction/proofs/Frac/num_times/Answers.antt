use Rattle.std.proofs.Common.{arith, ap₂, ◌≡◌, ◌∙◌, to_z, of_z, w64}
use Rattle.std.specs.Int.{w128}
use Rattle.std.specs.Prelude.{pos, ◌*ℤ◌}
use Rattle.std.proofs.lemmas.Int.{ints}
use Rattle.crn_fraction.proofs.Frac.num_times.Goals as goal

pub returns-clause-value : goal.returns-clause-value
returns-clause-value c =
    let num : to_z w128 (of_z w128 (to_z w64 (of_z w64 c.num.result))) ≡ c.args.self.num = omega (arith, ints) in
    let count : to_z w128 c.args.count ≡ pos c.args.count = omega (arith, ints) in
    let same : to_z w128 (of_z w128 c.product.result) ≡ c.product.result = omega (arith, ints) in
    same ∙ c.product.ensures.value ∙ ap₂ (λ x y. x *ℤ y) num count

pub returns-clause-small : goal.returns-clause-small
returns-clause-small c =
    let count : to_z w128 c.args.count ≡ pos c.args.count = omega (arith, ints) in
    omega (arith, ints, c.product.ensures.small)
