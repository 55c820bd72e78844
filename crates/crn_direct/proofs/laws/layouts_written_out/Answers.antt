use Rattle.std.proofs.Common.{◌≡◌, refl}
use Rattle.crn_fraction.specs.Gcd.{gcd}
use Rattle.crn_fraction.specs.Rational.{ratio, is_zero_ℚ}
use Rattle.crn_direct.specs.Layout.{least_on, direct_layout}
use Rattle.crn_direct.specs.Written.{two_forms, two_forms_network}
use Rattle.crn_direct.proofs.laws.layouts_written_out.Goals as goal

-- by computation
two_forms_are : direct_layout 2 two_forms ≡ two_forms_network
unfolding least_on ratio is_zero_ℚ gcd
two_forms_are = refl

pub returns : goal.returns
returns c = two_forms_are
