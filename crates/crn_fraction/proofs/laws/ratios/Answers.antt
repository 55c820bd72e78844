use Rattle.crn_fraction.specs.Gcd.{IsGcd-gcd}
use Rattle.crn_fraction.proofs.Core.{ratio_cross, same_cross, cross_same}
use Rattle.crn_fraction.proofs.laws.ratios.Goals as goal

pub returns : goal.returns
returns c = record { value = ratio_cross; equal = λ a b. (cross_same a b, same_cross a b); divisor = IsGcd-gcd }
