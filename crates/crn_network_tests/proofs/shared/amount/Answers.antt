use Rattle.std.proofs.Common.{◌≡◌, ◌<◌, ℕ, pos, sym, ◌∙◌, ap₂, subst, arith, to_z, of_z}
use Rattle.std.proofs.lemmas.Int.{ints}
use Rattle.std.specs.Int.{w64}
use Rattle.std.specs.Prelude.{unsigned_abs}
use Rattle.crn_fraction.specs.Rational.{0ℚ, ◌≤ℚ◌, ◌/ℚ◌, whole}
use Rattle.crn_segments.proofs.Amounts.{quotient_not_negative}
use Rattle.crn_network_tests.proofs.shared.amount.Goals as goal

pub returns : goal.returns
returns c =
    let n : ℕ = unsigned_abs c.args.num in
    let d : ℕ = unsigned_abs c.args.den in
    let top : to_z w64 (of_z w64 c.args.num) ≡ pos n = omega (arith, ints, c.requires.top, c.ranges.num.sfits) in
    let bottom : to_z w64 (of_z w64 c.args.den) ≡ pos d = omega (arith, ints, c.requires.bottom, c.ranges.den.sfits) in
    let positive : 0 < d = omega (arith, ints, c.requires.bottom) in
    subst (λ q. 0ℚ ≤ℚ q) (sym (c.in_ok-of.ensures.1 ∙ ap₂ (λ x y. whole x /ℚ whole y) top bottom)) (quotient_not_negative n d positive)
