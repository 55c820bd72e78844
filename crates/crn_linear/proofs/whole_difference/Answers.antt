use Rattle.std.proofs.Common.{◌≡◌, ◌≤◌, ◌^◌, ◌∙◌, ap, ap₂, sym, to_z, of_z, arith}
use Rattle.std.specs.Prelude.{unsigned_abs, ◌-ℤ◌}
use Rattle.std.specs.Int.{w64}
use Rattle.std.proofs.lemmas.Int.{ints}
use Rattle.crn_fraction.specs.Rational.{ℚ, ratio, whole, ◌-ℚ◌}
use Rattle.crn_fraction.specs.Parts.{ratio_self}
use Rattle.crn_fraction.proofs.Ratios.{over--ℚ}
use Rattle.crn_linear.proofs.whole_difference.Goals as goal

whole_is : (q : ℚ) → q.den ≡ 1 → q ≡ whole q.num
whole_is q e = sym (ratio_self q) ∙ ap (λ d. ratio q.num d) e

pub returns : goal.returns
returns c =
    let n = c.in_ok-difference.difference in
    let told = c.in_ok-difference.ensures in
    let left : c.args.a.den ≡ 1 = omega (arith, ints, c.den.ensures.value, c.if-den-ne1.false) in
    let right : c.args.b.den ≡ 1 = omega (arith, ints, c.den-else-den-ne1.ensures.value, c.if-den-ne1-2.false) in
    let is : n ≡ c.args.a.num -ℤ c.args.b.num = omega (arith, ints, told.0, told.1, c.num.ensures.value, c.num-2.ensures.value, c.num.ensures.fits.num_fits, c.num-2.ensures.fits.num_fits) in
    let back : to_z w64 (of_z w64 n) ≡ n = omega (arith, ints, told.0, told.1) in
    let size : unsigned_abs (to_z w64 (of_z w64 n)) ≤ 2 ^ 59 = omega (arith, c.if-unsigned_abs-gt-LIMIT.false, c.unsigned_abs.ensures.value) in (
      record { size = size },
      ap₂ (λ x y. x -ℚ y) (whole_is c.args.a left) (whole_is c.args.b right) ∙ over--ℚ c.args.a.num 1 c.args.b.num (omega arith) ∙ ap whole (sym (back ∙ is)),
    )
