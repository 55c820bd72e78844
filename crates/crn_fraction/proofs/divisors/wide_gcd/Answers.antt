use Rattle.std.proofs.Common.{ap, sym, ◌∙◌}
use Rattle.crn_fraction.specs.Gcd.{gcd}
use Rattle.crn_fraction.proofs.Euclid.{gcd_step, gcd_end}
use Rattle.crn_fraction.proofs.divisors.wide_gcd.Goals as goal

pub loop-y-preserved : goal.loop-y-preserved
loop-y-preserved c = gcd_step _ _ ∙ c.loop-y.invariant

pub returns-then-y-eq0 : goal.returns-then-y-eq0
returns-then-y-eq0 c = sym (gcd_end c.loop-y.x) ∙ ap (gcd c.loop-y.x) (sym c.if-y-eq0.true) ∙ c.loop-y.invariant

pub returns : goal.returns
returns c = c.gcd-2.ensures ∙ gcd_step _ _ ∙ c.loop-y.invariant
