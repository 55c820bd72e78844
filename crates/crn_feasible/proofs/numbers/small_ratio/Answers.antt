use Rattle.std.proofs.Common.{arith, ap, ap₂, sym, subst, ◌≡◌, ◌≤◌, ◌^◌, ◌∙◌, to_z, of_z}
use Rattle.crn_fraction.specs.Rational.{ratio, whole, ◌/ℚ◌}
use Rattle.crn_linear.specs.Rows.{IsSmall}
use Rattle.std.specs.Prelude.{ℤ, pos, unsigned_abs, int_div}
use Rattle.std.specs.Int.{w64, w128}
use Rattle.std.proofs.lemmas.Int.{ints, to_z-of_z}
use Rattle.std.proofs.Math.Nat.{le_of_dvd}
use Rattle.crn_fraction.specs.Gcd.{gcd, IsGcd-gcd}
use Rattle.crn_feasible.specs.Elimination.{fits}
use Rattle.crn_feasible.proofs.SmallRatios.{num_passes, den_passes, parts_fit, above_zero, answered}
use Rattle.crn_feasible.proofs.numbers.small_ratio.Goals.{After-wide_gcd-common}
use Rattle.crn_feasible.proofs.numbers.small_ratio.Goals as goal

common_is : (c : After-wide_gcd-common) → c.wide_gcd-common.result ≡ gcd (unsigned_abs c.args.num) c.args.den
common_is c = c.wide_gcd-common.ensures ∙ ap (λ n. gcd n c.args.den) (c.unsigned_abs.ensures.value ∙ ap unsigned_abs (to_z-of_z w128 c.args.num c.ranges.num))

common_small : (c : After-wide_gcd-common) → c.wide_gcd-common.result ≤ 2 ^ 119
common_small c = omega (arith, common_is c, le_of_dvd c.requires.positive (IsGcd-gcd (unsigned_abs c.args.num) c.args.den).1, c.requires.den_small)

pub over_divisor-requires : goal.over_divisor-requires
over_divisor-requires c = common_small (goal.at.over_divisor-requires c).After-wide_gcd-common

pub over_divisor-requires-2 : goal.over_divisor-requires-2
over_divisor-requires-2 c = common_small (goal.at.over_divisor-requires-2 c).After-wide_gcd-common

num_back : (c : After-wide_gcd-common) → int_div (to_z w128 (of_z w128 c.args.num)) (pos c.wide_gcd-common.result) ≡ int_div c.args.num (pos (gcd (unsigned_abs c.args.num) c.args.den))
num_back c = ap₂ (λ n g. int_div n (pos g)) (to_z-of_z w128 c.args.num c.ranges.num) (common_is c)

den_back : (c : After-wide_gcd-common) → int_div (to_z w128 c.args.den) (pos c.wide_gcd-common.result) ≡ int_div (pos c.args.den) (pos (gcd (unsigned_abs c.args.num) c.args.den))
den_back c =
    let same : to_z w128 c.args.den ≡ pos c.args.den = omega (arith, ints, c.requires.den_small) in
    ap₂ (λ n g. int_div n (pos g)) same (common_is c)

short : (z : ℤ) → IsSmall z → to_z w64 (of_z w64 z) ≡ z
short z s = omega (arith, ints, s.size)

pub returns-in_default : goal.returns-in_default
returns-in_default c =
    let shared = (goal.at.returns-in_default c).After-wide_gcd-common in
    num_passes c.args.num c.args.den c.requires.positive (ap fits (sym (num_back shared)) ∙ c.in_default.ensures)

pub returns-in_default-over_divisor : goal.returns-in_default-over_divisor
returns-in_default-over_divisor c =
    let shared = (goal.at.returns-in_default-over_divisor c).After-wide_gcd-common in
    den_passes c.args.num c.args.den c.requires.positive (ap fits (sym (den_back shared)) ∙ c.in_default-over_divisor.ensures)

pub of-requires : goal.of-requires
of-requires c = λ e.
    let shared = (goal.at.of-requires c).After-wide_gcd-common in
    let den = c.in-Some-over_divisor.ensures in
    above_zero c.args.num c.args.den c.requires.positive (sym (den_back shared) ∙ sym den.0 ∙ sym (short c.in-Some-over_divisor.low_den den.1) ∙ e)

pub returns : goal.returns
returns c =
    let shared = (goal.at.returns c).After-wide_gcd-common in
    let a = to_z w64 (of_z w64 c.in-Some.low_num) in
    let b = to_z w64 (of_z w64 c.in-Some-over_divisor.low_den) in
    let num = c.in-Some.ensures in
    let den = c.in-Some-over_divisor.ensures in
    let num_is = short c.in-Some.low_num num.1 in
    let den_is = short c.in-Some-over_divisor.low_den den.1 in
    let parts = parts_fit c.args.num c.args.den a b c.requires.positive (num_is ∙ num.0 ∙ num_back shared) (den_is ∙ den.0 ∙ den_back shared)
    (subst IsSmall (sym num_is) num.1) (subst IsSmall (sym den_is) den.1) in
    answered c.of.result c.ok.result (whole a /ℚ whole b) (ratio c.args.num c.args.den) c.of.ensures c.ok.ensures.value parts.1 parts.0 parts.2
