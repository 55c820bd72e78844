use Rattle.std.proofs.Common.{◌≡◌, ◌^◌, ◌∙◌, ap, arith}
use Rattle.std.specs.Prelude.{unsigned_abs}
use Rattle.std.specs.Int.{w128}
use Rattle.std.proofs.lemmas.Int.{to_z-of_z}
use Rattle.crn_fraction.specs.Gcd.{gcd}
use Rattle.crn_linear.proofs.Commons.{gcd_small}
use Rattle.crn_feasible.proofs.numbers.common_of_two.Goals as goal

pub returns-clause-small : goal.returns-clause-small
returns-clause-small c =
    let size : c.unsigned_abs.result ≡ unsigned_abs c.args.number = c.unsigned_abs.ensures.value ∙ ap unsigned_abs (to_z-of_z w128 c.args.number c.ranges.number) in
    let is : c.wide_gcd.result ≡ gcd c.args.common (unsigned_abs c.args.number) = c.wide_gcd.ensures ∙ ap (gcd c.args.common) size in
    let small = gcd_small c.args.common (unsigned_abs c.args.number) (2 ^ 119) c.requires.common_small c.requires.number_small in
    omega (arith, small, is)
