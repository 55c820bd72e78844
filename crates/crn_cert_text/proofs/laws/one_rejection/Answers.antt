use Rattle.crn_cert_text.proofs.Decided.{accepted_or_rejected, one_rejection}
use Rattle.crn_cert_text.proofs.laws.one_rejection.Goals as goal

pub returns-clause-some : goal.returns-clause-some
returns-clause-some c = accepted_or_rejected

pub returns-clause-one : goal.returns-clause-one
returns-clause-one c = one_rejection
