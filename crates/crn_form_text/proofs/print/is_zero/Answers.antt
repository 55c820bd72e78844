use Rattle.std.proofs.Common.{rules}
use Rattle.crn_fraction.specs.Rational.{is_zero_ℚ}
use Rattle.crn_form_text.proofs.print.is_zero.Goals as goal

pub returns-clause-value : goal.returns-clause-value
unfolding is_zero_ℚ
returns-clause-value c = search rules
