use Rattle.crn_net.proofs.Causes.{one_cause, valid_has_none}
use Rattle.crn_net.proofs.laws.causes_exclude_each_other.Goals as goal

pub returns-clause-one : goal.returns-clause-one
returns-clause-one c = one_cause

pub returns-clause-none : goal.returns-clause-none
returns-clause-none c = valid_has_none
