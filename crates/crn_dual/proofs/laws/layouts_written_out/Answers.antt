use Rattle.std.proofs.Common.{◌≡◌, refl}
use Rattle.crn_fraction.specs.Gcd.{gcd}
use Rattle.crn_fraction.specs.Rational.{ratio, is_zero_ℚ}
use Rattle.crn_net.specs.Minimum.{minimum}
use Rattle.crn_dual.specs.Layout.{nodes, layout}
use Rattle.crn_dual.specs.Written.{lesser_of_two, at_least_three, at_least_three_network, scaled_less_sum, scaled_less_sum_network}
use Rattle.crn_dual.proofs.laws.layouts_written_out.Goals as goal

-- by computation
lesser_is : layout 2 lesser_of_two ≡ minimum
unfolding nodes ratio is_zero_ℚ gcd
lesser_is = refl

constant_is : layout 1 at_least_three ≡ at_least_three_network
unfolding nodes ratio is_zero_ℚ gcd
constant_is = refl

linear_is : layout 2 scaled_less_sum ≡ scaled_less_sum_network
unfolding nodes ratio is_zero_ℚ gcd
linear_is = refl

pub returns-clause-lesser : goal.returns-clause-lesser
returns-clause-lesser c = lesser_is

pub returns-clause-constant : goal.returns-clause-constant
returns-clause-constant c = constant_is

pub returns-clause-linear : goal.returns-clause-linear
returns-clause-linear c = linear_is
