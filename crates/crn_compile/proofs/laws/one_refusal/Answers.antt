use Rattle.crn_compile.proofs.OneRefusal.{alike, limit_beside}
use Rattle.crn_compile.proofs.laws.one_refusal.Goals as goal

pub returns-clause-alike : goal.returns-clause-alike
returns-clause-alike c = alike

pub returns-clause-limit : goal.returns-clause-limit
returns-clause-limit c = limit_beside
