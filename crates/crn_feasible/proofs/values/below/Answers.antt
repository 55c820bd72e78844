use Rattle.std.proofs.Common.{arith, true, false, sym, ap₂, ◌∙◌, ◌≡◌, subst, to_z, of_z}
use Rattle.std.specs.Prelude.{pos, ◌-ℤ◌, unsigned_abs, MatchOption}
use Rattle.std.specs.Int.{w64, w128}
use Rattle.std.proofs.lemmas.Int.{ints}
use Rattle.crn_fraction.specs.Rational.{ℚ, ratio}
use Rattle.crn_feasible.specs.Elimination.{fits_ℚ}
use Rattle.crn_feasible.proofs.Picked.{below_is}
use Rattle.crn_feasible.proofs.values.below.Goals as goal

pub returns : goal.returns
returns c =
    let q = c.args.high in
    let num : to_z w128 (of_z w128 (to_z w128 (of_z w128 (to_z w64 (of_z w64 c.num.result))) -ℤ to_z w128 (of_z w128 (to_z w64 (of_z w64 c.den.result))))) ≡ q.num -ℤ pos q.den =
    omega (arith, ints, c.num.ensures.value, c.num.ensures.fits.num_fits, c.den.ensures.value, c.den.ensures.fits.den_fits) in
    let den : unsigned_abs (to_z w64 (of_z w64 c.den-2.result)) ≡ q.den = omega (arith, ints, c.den-2.ensures.value, c.den-2.ensures.fits.den_fits) in
    subst (λ (p : ℚ). MatchOption c.small_ratio.result (fits_ℚ p ≡ false) (λ (r : ℚ). (r ≡ p) × (fits_ℚ p ≡ true))) (ap₂ ratio num den ∙ sym (below_is q)) c.small_ratio.ensures
