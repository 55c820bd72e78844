use Rattle.std.proofs.Common.{arith, ap, ◌≡◌, ◌∙◌, to_z, of_z}
use Rattle.std.specs.Int.{w128}
use Rattle.std.proofs.lemmas.Int.{ints, to_z-of_z}
use Rattle.crn_fraction.specs.Rational.{ratio}
use Rattle.crn_fraction.proofs.Lowest.{reduced_parts}
use Rattle.crn_linear.proofs.Wides.{wide_of}
use Rattle.crn_linear.proofs.Wide.of.Goals as goal
use Rattle.crn_linear.proofs.Wide.of.Goals.{After-lowest_terms-num}

num_is : (c : After-lowest_terms-num) → to_z w128 (of_z w128 c.lowest_terms-num.result.0) ≡ (ratio c.args.num c.args.den).num
num_is c =
    let same = ap (λ n. (ratio n c.args.den).num) (to_z-of_z w128 c.args.num c.ranges.num) in
    omega (arith, ints)

den_is : (c : After-lowest_terms-num) → c.lowest_terms-num.result.1 ≡ (ratio c.args.num c.args.den).den
den_is c = c.lowest_terms-num.ensures.den ∙ ap (λ n. (ratio n c.args.den).den) (to_z-of_z w128 c.args.num c.ranges.num)

pub invariant_of-result : goal.invariant_of-result
invariant_of-result c =
    let shared = (goal.at.invariant_of-result c).After-lowest_terms-num in
    wide_of c.args.num c.args.den _ _ (num_is shared) (den_is shared) (omega (arith, ints)) (omega arith)

pub returns : goal.returns
returns c =
    let shared = (goal.at.returns c).After-lowest_terms-num in
    (reduced_parts c.args.num c.args.den _ _ (num_is shared) (den_is shared)).1
