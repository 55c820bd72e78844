use Rattle.std.proofs.Common.{arith, ap, ap₂, sym, ◌≡◌, ◌∙◌, ◌+◌, ◌<◌, to_z, of_z, length, take, add-one}
use Rattle.std.specs.Int.{w64}
use Rattle.std.specs.Prelude.{unsigned_abs}
use Rattle.std.proofs.lemmas.Int.{ints}
use Rattle.crn_fraction.specs.Gcd.{lcm}
use Rattle.crn_linear.specs.Forms.{entry_of}
use Rattle.crn_linear.specs.Cleared.{common_den}
use Rattle.crn_linear.proofs.Denominators.{common_den-more, common_den-take}
use Rattle.crn_linear.proofs.common_den.Goals as goal
use Rattle.crn_linear.proofs.common_den.Goals.{After-lcm-multiple}

-- the denominator of this step
den_is : (c : After-lcm-multiple) → unsigned_abs (to_z w64 (of_z w64 c.den-den.result)) ≡ (entry_of c.args.units.now c.loop-i.i).den
den_is c =
    let size : unsigned_abs (to_z w64 (of_z w64 c.den-den.result)) ≡ c.coeff.result.den = omega (arith, ints, c.den-den.ensures.value) in
    size ∙ ap (λ q. q.den) c.coeff.ensures

-- what the code computes is the least common denominator of one more
multiple_is : (c : After-lcm-multiple) →
    c.lcm-multiple.result ≡ common_den (take (c.loop-i.i + 1) c.args.units.now)
multiple_is c =
    let below : c.loop-i.i < length c.args.units.now = omega (arith, c.len-i-end.ensures.value) in
    c.lcm-multiple.ensures ∙ ap₂ lcm c.loop-i.invariant.value (den_is c)
    ∙ sym (rw add-one (common_den-more c.args.units.now c.loop-i.i below))

pub returns-then-multiple-gt-LIMIT : goal.returns-then-multiple-gt-LIMIT
returns-then-multiple-gt-LIMIT c =
    let is = multiple_is ((goal.at.returns-then-multiple-gt-LIMIT c).After-lcm-multiple) in
    λ h. omega (arith, c.if-multiple-gt-LIMIT.true, common_den-take c.args.units.now (c.loop-i.i + 1))

pub loop-i-preserved : goal.loop-i-preserved
loop-i-preserved c =
    let is = multiple_is ((goal.at.loop-i-preserved c).After-lcm-multiple) in
    record { value = is; small = c.if-multiple-gt-LIMIT.false }
