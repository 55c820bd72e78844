use Rattle.std.proofs.Common.{arith, ap, ap₂, refl, ◌≡◌, ◌∙◌, ◌*◌, ◌/◌, ◌≤◌, to_z, of_z}
use Rattle.std.specs.Int.{w128}
use Rattle.std.specs.Prelude.{◌+ℤ◌}
use Rattle.std.proofs.lemmas.Int.{ints}
use Rattle.crn_fraction.specs.Gcd.{gcd}
use Rattle.crn_fraction.specs.Rational.{IsLowest, ratio, ◌+ℚ◌}
use Rattle.crn_fraction.proofs.Values.{answer_at, part_below, word_fits}
use Rattle.crn_fraction.proofs.Lowest.{sum_across}
use Rattle.crn_fraction.proofs.Frac.add_across.Goals as goal
use Rattle.crn_fraction.proofs.Frac.add_across.Goals.{After-lowest_terms-num}

pub overflow_add-total : goal.overflow_add-total
overflow_add-total c = omega (arith, ints)

other_rest_below : (c : After-lowest_terms-num) → (c.den_word-other_den.result / c.long_gcd-common.result) * c.lowest_terms-num.result.1 ≤ c.den_word-other_den.result
other_rest_below c = part_below _ _ _ c.long_gcd-common.ensures.positive c.lowest_terms-num.ensures.small_den

pub overflow_mul-other_rest : goal.overflow_mul-other_rest
overflow_mul-other_rest c =
    let below = other_rest_below ((goal.at.overflow_mul-other_rest c).After-lowest_terms-num) in
    omega arith

pub overflow_mul-part : goal.overflow_mul-part
overflow_mul-part c =
    let below = other_rest_below ((goal.at.overflow_mul-part c).After-lowest_terms-num) in
    let part = part_below c.den_word-den.result c.long_gcd-common.result 1 c.long_gcd-common.ensures.positive c.long_gcd-common.ensures.positive in
    word_fits (c.den_word-den.result / c.long_gcd-common.result) ((c.den_word-other_den.result / c.long_gcd-common.result) * c.lowest_terms-num.result.1) (omega arith) (omega arith)

-- the parts that the code computes are in lowest terms, and are those of the sum
sum_is : (c : After-lowest_terms-num) →
    let u = c.den_word-den.result / c.long_gcd-common.result in
    let v = c.den_word-other_den.result / c.long_gcd-common.result in
    let n = to_z w128 (of_z w128 c.lowest_terms-num.result.0) in
    let e = u * (v * c.lowest_terms-num.result.1) in
    IsLowest n e × (ratio n e ≡ c.args.self +ℚ c.args.other)
sum_is c =
    let g = c.long_gcd-common.result in
    let left : to_z w128 (of_z w128 c.num_times.result) ≡ c.num_times.result = omega (arith, ints) in
    let right : to_z w128 (of_z w128 c.num_times-2.result) ≡ c.num_times-2.result = omega (arith, ints) in
    let total : to_z w128 (of_z w128 (to_z w128 (of_z w128 c.num_times.result) +ℤ to_z w128 (of_z w128 c.num_times-2.result)))
    ≡ to_z w128 (of_z w128 c.num_times.result) +ℤ to_z w128 (of_z w128 c.num_times-2.result) = omega (arith, ints) in
    let same : to_z w128 (of_z w128 c.lowest_terms-num.result.0) ≡ c.lowest_terms-num.result.0 = omega (arith, ints) in
    sum_across c.args.self c.args.other g _ _ _ _ _ _
    (c.long_gcd-common.ensures.value ∙ ap₂ gcd c.den_word-den.ensures.value c.den_word-other_den.ensures.value)
    (ap (λ d. d / g) c.den_word-den.ensures.value)
    (ap (λ d. d / g) c.den_word-other_den.ensures.value)
    (total ∙ ap₂ (λ x y. x +ℤ y) (left ∙ c.num_times.ensures.value) (right ∙ c.num_times-2.ensures.value))
    (same ∙ c.lowest_terms-num.ensures.num) c.lowest_terms-num.ensures.den refl

pub fitted-requires : goal.fitted-requires
fitted-requires c = (sum_is ((goal.at.fitted-requires c).After-lowest_terms-num)).0

pub returns : goal.returns
returns c = answer_at _ (sum_is ((goal.at.returns c).After-lowest_terms-num)).1 c.fitted.ensures
