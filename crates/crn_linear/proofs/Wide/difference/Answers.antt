use Rattle.std.proofs.Common.{arith, ap, ap₂, sym, ◌≡◌, ◌∙◌, to_z, of_z}
use Rattle.std.specs.Int.{w64, w128}
use Rattle.std.specs.Prelude.{unsigned_abs, ◌-ℤ◌}
use Rattle.std.proofs.lemmas.Int.{ints}
use Rattle.crn_fraction.specs.Rational.{0ℚ, ratio, ◌-ℚ◌}
use Rattle.crn_fraction.specs.Parts.{ratio_self}
use Rattle.crn_fraction.proofs.Ring.{sub_ℚ-zero}
use Rattle.crn_linear.proofs.Wides.{wide_self, minus_parts}
use Rattle.crn_linear.proofs.Wide.difference.Goals as goal

pub invariant_of-result : goal.invariant_of-result
invariant_of-result c = wide_self c.args.a _ _ (omega (arith, ints)) (omega (arith, ints)) c.num.ensures.fits

pub returns-then-is_zero : goal.returns-then-is_zero
returns-then-is_zero c =
    let num : to_z w128 (of_z w128 (to_z w64 (of_z w64 c.num.result))) ≡ c.args.a.num = omega (arith, ints) in
    let den : unsigned_abs (to_z w64 (of_z w64 c.den.result)) ≡ c.args.a.den = omega (arith, ints) in
    let zero_b : c.args.b ≡ 0ℚ = c.is_zero.ensures.0 c.if-is_zero.true in
    ap₂ ratio num den ∙ ratio_self c.args.a ∙ sym (sub_ℚ-zero c.args.a) ∙ ap (λ z. c.args.a -ℚ z) (sym zero_b)

pub returns : goal.returns
returns c =
    let left : to_z w128 (of_z w128 c.cross.result) ≡ c.cross.result = omega (arith, ints) in
    let right : to_z w128 (of_z w128 c.cross-2.result) ≡ c.cross-2.result = omega (arith, ints) in
    let total : to_z w128 (of_z w128 (to_z w128 (of_z w128 c.cross.result) -ℤ to_z w128 (of_z w128 c.cross-2.result)))
    ≡ to_z w128 (of_z w128 c.cross.result) -ℤ to_z w128 (of_z w128 c.cross-2.result) = omega (arith, ints) in
    c.of.ensures
    ∙ minus_parts c.args.a c.args.b _ _
    (total ∙ ap₂ (λ x y. x -ℤ y) (left ∙ c.cross.ensures.value) (right ∙ c.cross-2.ensures.value)) c.shared_den.ensures.value
