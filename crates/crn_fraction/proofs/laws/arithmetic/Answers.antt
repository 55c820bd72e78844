use Rattle.crn_fraction.proofs.Ratios.{ratio-+ℚ, ratio-*ℚ}
use Rattle.crn_fraction.proofs.Ring.{sub_ℚ-+ℚ}
use Rattle.crn_fraction.proofs.Products.{*ℚ-/ℚ}
use Rattle.crn_fraction.proofs.laws.arithmetic.Goals as goal

pub returns : goal.returns
returns c = record { sum = λ x y d e. ratio-+ℚ x d y e; product = λ x y d e. ratio-*ℚ x d y e; difference = sub_ℚ-+ℚ; quotient = *ℚ-/ℚ }
