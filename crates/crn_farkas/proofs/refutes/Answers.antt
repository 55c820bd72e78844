use Rattle.std.proofs.Common.{rules}
use Rattle.crn_farkas.proofs.Motzkin.{no_point}
use Rattle.crn_farkas.proofs.refutes.Goals.{then-multipliers-rows, else-multipliers-rows, then-are_in_range, else-are_in_range}
use Rattle.crn_farkas.proofs.refutes.Goals as goal

pub returns-then-has_strict-clause-excludes : goal.returns-then-has_strict-clause-excludes
returns-then-has_strict-clause-excludes c = search (rules, no_point)
