use Rattle.std.proofs.Common.{sym}
use Rattle.crn_segments.proofs.Least.{none_refused, least_is_refused}
use Rattle.crn_segments.proofs.work.Sums.check.Goals as goal

pub returns-then-least-count : goal.returns-then-least-count
returns-then-least-count c = λ d nn. none_refused c.args.count c.args.self.now c.least_refused-least.result c.least_refused-least.ensures d nn c.if-least-count.true

pub returns-in-Some : goal.returns-in-Some
returns-in-Some c =
    λ d nn. least_is_refused c.args.count c.args.self.now c.least_refused-least.result c.least_refused-least.ensures d nn c.in-Some.error c.if-least-count.false (sym c.in-Some.ensures)
