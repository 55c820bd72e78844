use Rattle.crn_compile.proofs.OneDirectRefusal.{direct_alike, direct_limit_beside}
use Rattle.crn_compile.proofs.laws.one_direct_refusal.Goals as goal

pub returns-clause-alike : goal.returns-clause-alike
returns-clause-alike c = direct_alike

pub returns-clause-limit : goal.returns-clause-limit
returns-clause-limit c = direct_limit_beside
