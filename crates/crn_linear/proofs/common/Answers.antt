use Rattle.std.proofs.Common.{◌≡◌, ◌<◌, ◌≤◌, ◌^◌, ◌∙◌, ap, get_or, length, refl, to_z, of_z, arith, rules}
use Rattle.std.specs.Prelude.{pos, unsigned_abs}
use Rattle.std.specs.Int.{w64}
use Rattle.std.proofs.lemmas.Int.{ints}
use Rattle.crn_fraction.specs.Gcd.{gcd}
use Rattle.crn_linear.proofs.Commons.{one_ends, common_more, gcd_small}
use Rattle.crn_linear.proofs.common.Goals as goal

pub returns-then-common-eq1-clause-value : goal.returns-then-common-eq1-clause-value
returns-then-common-eq1-clause-value c = one_ends c.loop-number.number-index c.loop-number.common c.args.numbers.now c.loop-number.invariant.value c.if-common-eq1.true

pub loop-number-preserved : goal.loop-number-preserved
loop-number-preserved c =
    let xs = c.args.numbers.now in
    let i = c.loop-number.number-index in
    let x = get_or xs i (pos 0) in
    let below : i < length xs = search rules in
    let size : unsigned_abs x ≤ 2 ^ 59 = (c.requires i (pos 0) below).size in
    let back : to_z w64 (of_z w64 x) ≡ x = omega (arith, ints, size) in
    let is : c.gcd-common.result ≡ gcd c.loop-number.common (unsigned_abs x) =
    c.gcd-common.ensures ∙ ap (λ z. gcd c.loop-number.common z) (c.unsigned_abs.ensures.value ∙ ap unsigned_abs back) in
    let small = gcd_small c.loop-number.common (unsigned_abs x) (2 ^ 59) c.loop-number.invariant.small size in
    record {
      value = common_more xs i c.loop-number.common c.gcd-common.result x below c.loop-number.invariant.value refl is;
      small = omega (arith, small, is);
    }
