use Rattle.std.proofs.Common.{arith, ap, ap₂, sym, ◌≡◌, ◌∙◌, ◌/◌, ◌<◌, ◌≤◌, to_z, of_z, SFits}
use Rattle.std.specs.Int.{w128}
use Rattle.std.specs.Prelude.{pos, unsigned_abs, int_div}
use Rattle.std.proofs.lemmas.Int.{ints, to_z-of_z, quot_fits}
use Rattle.crn_fraction.specs.Gcd.{gcd, gcd-pos}
use Rattle.crn_fraction.specs.Rational.{ratio}
use Rattle.crn_fraction.proofs.Euclid.{gcd_small}
use Rattle.crn_fraction.proofs.Core.{num-ratio, den-ratio}
use Rattle.crn_fraction.proofs.Lowest.{lowest_by_one, num-shrinks, den-shrinks}
use Rattle.crn_linear.proofs.lowest_terms.Goals as goal
use Rattle.crn_linear.proofs.lowest_terms.Goals.{After-wide_gcd-common}

-- the greatest common divisor of the arguments, and its size
is_gcd : (c : After-wide_gcd-common) → c.wide_gcd-common.result ≡ gcd (unsigned_abs c.args.num) c.args.den
is_gcd c = c.wide_gcd-common.ensures ∙ ap (λ n. gcd n c.args.den) (c.unsigned_abs.ensures.value ∙ ap unsigned_abs (to_z-of_z w128 c.args.num c.ranges.num))

bounds : (c : After-wide_gcd-common) → (0 < c.wide_gcd-common.result) × (c.wide_gcd-common.result ≤ c.args.den)
bounds c = rw (is_gcd c) (gcd-pos (unsigned_abs c.args.num) c.args.den c.requires.positive, gcd_small (unsigned_abs c.args.num) c.args.den c.requires.positive)

divisor : (c : After-wide_gcd-common) → to_z w128 c.wide_gcd-common.result ≡ pos c.wide_gcd-common.result
divisor c = let b = bounds c in omega (arith, ints)

quotient_fits : (c : After-wide_gcd-common) → SFits w128 (int_div c.args.num (pos c.wide_gcd-common.result))
quotient_fits c =
    let b = bounds c in
    quot_fits w128 c.args.num (pos c.wide_gcd-common.result) c.ranges.num (omega (arith, ints))

pub overflow_cast-result : goal.overflow_cast-result
overflow_cast-result c = let b = bounds ((goal.at.overflow_cast-result c).After-wide_gcd-common) in omega (arith, ints)

pub nonzero_div-result : goal.nonzero_div-result
nonzero_div-result c =
    let shared = (goal.at.nonzero_div-result c).After-wide_gcd-common in
    ((bounds shared).0, rw (to_z-of_z w128 c.args.num c.ranges.num, divisor shared) (quotient_fits shared))

pub nonzero_div-result-2 : goal.nonzero_div-result-2
nonzero_div-result-2 c = (bounds ((goal.at.nonzero_div-result-2 c).After-wide_gcd-common)).0

pub returns-then-common-eq1 : goal.returns-then-common-eq1
returns-then-common-eq1 c =
    let shared = (goal.at.returns-then-common-eq1 c).After-wide_gcd-common in
    let same = lowest_by_one c.args.num c.args.den c.requires.positive (sym (is_gcd shared) ∙ c.if-common-eq1.true) in
    record {
      num = to_z-of_z w128 c.args.num c.ranges.num ∙ sym same.0;
      den = sym same.1;
      small_num = omega (arith, ints);
      small_den = omega arith;
    }

pub returns : goal.returns
returns c =
    let shared = (goal.at.returns c).After-wide_gcd-common in
    let num : to_z w128 (of_z w128 (int_div (to_z w128 (of_z w128 c.args.num)) (to_z w128 c.wide_gcd-common.result))) ≡ (ratio c.args.num c.args.den).num =
    ap (λ z. to_z w128 (of_z w128 z)) (ap₂ int_div (to_z-of_z w128 c.args.num c.ranges.num) (divisor shared))
    ∙ to_z-of_z w128 (int_div c.args.num (pos c.wide_gcd-common.result)) (quotient_fits shared)
    ∙ ap (λ g. int_div c.args.num (pos g)) (is_gcd shared) ∙ sym (num-ratio c.args.num c.args.den c.requires.positive) in
    let den : c.args.den / c.wide_gcd-common.result ≡ (ratio c.args.num c.args.den).den =
    ap (λ g. c.args.den / g) (is_gcd shared) ∙ sym (den-ratio c.args.num c.args.den c.requires.positive) in
    record {
      num = num;
      den = den;
      small_num = rw num (num-shrinks c.args.num c.args.den c.requires.positive);
      small_den = rw den (den-shrinks c.args.num c.args.den c.requires.positive);
    }
