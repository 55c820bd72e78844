use Rattle.std.proofs.Common.{◌∙◌, ◌<◌, ◌≤◌, arith, ap, sym}
use Rattle.crn_fraction.specs.Gcd.{gcd, gcd-pos}
use Rattle.crn_fraction.proofs.Euclid.{gcd_one, gcd_small}
use Rattle.crn_fraction.proofs.long_gcd.Goals as goal
use Rattle.crn_fraction.proofs.long_gcd.Goals.{After-wide_gcd}

-- what is found is positive, and no greater than the second number
bounds : (c : After-wide_gcd) → (0 < c.wide_gcd.result) × (c.wide_gcd.result ≤ c.args.b)
bounds c = rw c.wide_gcd.ensures (gcd-pos c.args.a c.args.b c.requires, gcd_small c.args.a c.args.b c.requires)

pub returns-then-b-eq1-clause-value : goal.returns-then-b-eq1-clause-value
returns-then-b-eq1-clause-value c = sym (gcd_one c.args.a) ∙ ap (gcd c.args.a) (sym c.if-b-eq1.true)

pub overflow_cast-result : goal.overflow_cast-result
overflow_cast-result c = let b = bounds (goal.at.overflow_cast-result c).After-wide_gcd in omega (arith, b)

pub returns-else-b-eq1-clause-positive : goal.returns-else-b-eq1-clause-positive
returns-else-b-eq1-clause-positive c = (bounds (goal.at.returns-else-b-eq1-clause-positive c).After-wide_gcd).0

pub returns-else-b-eq1-clause-small : goal.returns-else-b-eq1-clause-small
returns-else-b-eq1-clause-small c = (bounds (goal.at.returns-else-b-eq1-clause-small c).After-wide_gcd).1
