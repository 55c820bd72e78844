use Rattle.std.proofs.Common.{ap}
use Rattle.crn_feasible.specs.Elimination.{direction}
use Rattle.crn_feasible.proofs.rows.direction_of.Goals as goal

pub returns : goal.returns
unfolding direction
returns c = ap (λ ps. record { entries = ps; strict = c.args.strict }) c.without_divisor.ensures
