use Rattle.crn_compile.proofs.OneDirectRefusal.{direct_only_limits}
use Rattle.crn_compile.proofs.laws.direct_networks_come.Goals as goal

pub returns-clause-so : goal.returns-clause-so
returns-clause-so c k kind net n = (n.checked.covers, n.checked.agree, n.used.superadditive, n.used.nonnegative)

pub returns-clause-limits : goal.returns-clause-limits
returns-clause-limits c = direct_only_limits
