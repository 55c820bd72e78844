use Rattle.std.proofs.Common.{arith, rules, true, false, sym, ap, ap₂, ◌∙◌, ◌≡◌, ◌*◌, subst, to_z, of_z, SFits}
use Rattle.std.specs.Prelude.{pos, ◌+ℤ◌, ◌*ℤ◌, unsigned_abs, MatchOption}
use Rattle.std.specs.Int.{w64, w128}
use Rattle.std.proofs.lemmas.Int.{ints, to_z-of_z}
use Rattle.crn_fraction.specs.Rational.{ℚ, ratio}
use Rattle.crn_feasible.specs.Elimination.{fits_ℚ}
use Rattle.crn_feasible.proofs.Picked.{middle_is}
use Rattle.crn_feasible.proofs.values.middle.Goals as goal

pub returns : goal.returns
returns c =
    let low = c.args.low in
    let high = c.args.high in
    let low_num : to_z w64 (of_z w64 c.num.result) ≡ low.num = omega (arith, ints, c.num.ensures.value, c.num.ensures.fits.num_fits) in
    let high_den : to_z w64 (of_z w64 c.den.result) ≡ pos high.den = omega (arith, ints, c.den.ensures.value, c.den.ensures.fits.den_fits) in
    let high_num : to_z w64 (of_z w64 c.num-2.result) ≡ high.num = omega (arith, ints, c.num-2.ensures.value, c.num-2.ensures.fits.num_fits) in
    let low_den : to_z w64 (of_z w64 c.den-2.result) ≡ pos low.den = omega (arith, ints, c.den-2.ensures.value, c.den-2.ensures.fits.den_fits) in
    let den_low : to_z w64 (of_z w64 c.den-3.result) ≡ pos low.den = omega (arith, ints, c.den-3.ensures.value, c.den-3.ensures.fits.den_fits) in
    let den_high : to_z w64 (of_z w64 c.den-4.result) ≡ pos high.den = omega (arith, ints, c.den-4.ensures.value, c.den-4.ensures.fits.den_fits) in
    let mix_fits : SFits w128 c.mix-num.result = search rules in
    let product_fits : SFits w128 c.product.result = search rules in
    let num : to_z w128 (of_z w128 c.mix-num.result) ≡ low.num *ℤ pos high.den +ℤ high.num *ℤ pos low.den =
    to_z-of_z w128 _ mix_fits ∙ c.mix-num.ensures.value ∙ ap₂ (λ s t. s +ℤ t) (ap₂ (λ s t. s *ℤ t) low_num high_den) (ap₂ (λ s t. s *ℤ t) high_num low_den) in
    let den : unsigned_abs (to_z w128 (of_z w128 c.product.result)) ≡ low.den * high.den =
    ap unsigned_abs (to_z-of_z w128 _ product_fits ∙ c.product.ensures.value ∙ ap₂ (λ s t. s *ℤ t) den_low den_high) in
    subst (λ (q : ℚ). MatchOption c.small_ratio.result (fits_ℚ q ≡ false) (λ (r : ℚ). (r ≡ q) × (fits_ℚ q ≡ true)))
    (ap₂ (λ n d. ratio n (2 * d)) num den ∙ sym (middle_is low high)) c.small_ratio.ensures
