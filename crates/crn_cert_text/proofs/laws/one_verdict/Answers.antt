use Rattle.crn_cert_text.proofs.TextVerdicts.{accepted_refused, one_count}
use Rattle.crn_cert_text.proofs.Decided.{some_verdict, one_refusal}
use Rattle.crn_cert_text.proofs.laws.one_verdict.Goals as goal

pub returns-clause-some : goal.returns-clause-some
returns-clause-some c = some_verdict

pub returns-clause-refused : goal.returns-clause-refused
returns-clause-refused c = accepted_refused

pub returns-clause-counted : goal.returns-clause-counted
returns-clause-counted c = one_count

pub returns-clause-one : goal.returns-clause-one
returns-clause-one c = one_refusal
