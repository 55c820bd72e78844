use Rattle.std.proofs.Common.{arith, ◌∙◌, sym, ap, ap₂, ◌≡◌, ◌/◌, to_z, of_z}
use Rattle.std.specs.Int.{w128}
use Rattle.std.specs.Prelude.{unsigned_abs, pos, int_div}
use Rattle.std.proofs.lemmas.Int.{ints, to_z-of_z}
use Rattle.crn_fraction.specs.Gcd.{gcd}
use Rattle.crn_fraction.specs.Rational.{ratio}
use Rattle.crn_fraction.proofs.Core.{num-ratio, den-ratio}
use Rattle.crn_fraction.proofs.Lowest.{lowest_by_one, num-shrinks, den-shrinks}
use Rattle.crn_fraction.proofs.lowest_terms.Goals.{After-long_gcd-common}
use Rattle.crn_fraction.proofs.lowest_terms.Goals as goal

-- the greatest common divisor of the arguments
is_gcd : (c : After-long_gcd-common) → c.long_gcd-common.result ≡ gcd (unsigned_abs c.args.num) c.args.den
is_gcd c =
    c.long_gcd-common.ensures.value
    ∙ ap (λ n. gcd n c.args.den) (c.unsigned_abs.ensures.value ∙ ap unsigned_abs (to_z-of_z w128 c.args.num c.ranges.num))

pub returns-then-common-eq1 : goal.returns-then-common-eq1
returns-then-common-eq1 c =
    let shared = (goal.at.returns-then-common-eq1 c).After-long_gcd-common in
    let same = lowest_by_one c.args.num c.args.den c.requires (sym (is_gcd shared) ∙ c.if-common-eq1.true) in
    record {
      num = to_z-of_z w128 c.args.num c.ranges.num ∙ sym same.0;
      den = sym same.1;
      small_num = omega (arith, ints);
      small_den = omega arith;
    }

pub returns : goal.returns
returns c =
    let shared = (goal.at.returns c).After-long_gcd-common in
    let gives : c.quotient.result ≡ (ratio c.args.num c.args.den).num =
    c.quotient.ensures
    ∙ ap₂ (λ n g. int_div n (pos g)) (to_z-of_z w128 c.args.num c.ranges.num) (is_gcd shared)
    ∙ sym (num-ratio c.args.num c.args.den c.requires) in
    let den : c.args.den / c.long_gcd-common.result ≡ (ratio c.args.num c.args.den).den =
    ap (λ g. c.args.den / g) (is_gcd shared) ∙ sym (den-ratio c.args.num c.args.den c.requires) in
    let less = num-shrinks c.args.num c.args.den c.requires in
    let num : to_z w128 (of_z w128 c.quotient.result) ≡ (ratio c.args.num c.args.den).num = omega (arith, ints) in
    record { num = num; den = den; small_num = rw num less; small_den = rw den (den-shrinks c.args.num c.args.den c.requires) }
