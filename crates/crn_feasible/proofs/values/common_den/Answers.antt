use Rattle.std.proofs.Common.{arith, ap, ap₂, sym, ◌≡◌, ◌∙◌, ◌+◌, to_z, of_z, take, add-one}
use Rattle.std.specs.Int.{w64}
use Rattle.std.specs.Prelude.{unsigned_abs}
use Rattle.std.proofs.lemmas.Int.{ints}
use Rattle.std.proofs.lemmas.List.{get_or_read}
use Rattle.crn_fraction.specs.Rational.{ℚ, 0ℚ}
use Rattle.crn_fraction.specs.Gcd.{lcm}
use Rattle.crn_linear.specs.Forms.{entry_of}
use Rattle.crn_linear.specs.Cleared.{common_den}
use Rattle.crn_linear.proofs.Denominators.{common_den-more, common_den-take}
use Rattle.crn_feasible.proofs.values.common_den.Goals.{After-lcm-multiple}
use Rattle.crn_feasible.proofs.values.common_den.Goals as goal

-- the denominator of this turn
den_is : (c : After-lcm-multiple) → unsigned_abs (to_z w64 (of_z w64 c.den-den.result)) ≡ (entry_of c.args.values.now c.loop-value.value-index).den
den_is c =
    let size : unsigned_abs (to_z w64 (of_z w64 c.den-den.result)) ≡ c.value-item.result.den = omega (arith, ints, c.den-den.ensures.value) in
    size ∙ ap (λ (q : ℚ). q.den) (get_or_read c.args.values.now c.loop-value.value-index c.value-item.result c.loop-value-test.true c.value-item.is 0ℚ)

-- what the code computes is the least common denominator of one more
multiple_is : (c : After-lcm-multiple) →
    c.lcm-multiple.result ≡ common_den (take (c.loop-value.value-index + 1) c.args.values.now)
multiple_is c =
    c.lcm-multiple.ensures ∙ ap₂ lcm c.loop-value.invariant.value (den_is c)
    ∙ sym (rw add-one (common_den-more c.args.values.now c.loop-value.value-index c.loop-value-test.true))

pub returns-then-multiple-gt-LIMIT : goal.returns-then-multiple-gt-LIMIT
returns-then-multiple-gt-LIMIT c =
    let is = multiple_is ((goal.at.returns-then-multiple-gt-LIMIT c).After-lcm-multiple) in
    omega (arith, c.if-multiple-gt-LIMIT.true, common_den-take c.args.values.now (c.loop-value.value-index + 1))

pub loop-value-preserved : goal.loop-value-preserved
loop-value-preserved c =
    let is = multiple_is ((goal.at.loop-value-preserved c).After-lcm-multiple) in
    record { value = is; small = c.if-multiple-gt-LIMIT.false }
