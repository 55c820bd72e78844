use Rattle.crn_cert_text.proofs.SomeProof.{some_proof}
use Rattle.crn_cert_text.proofs.CheckedOnce.{checked_refused}
use Rattle.crn_cert_text.proofs.laws.proof_or_a_limit.Goals as goal

pub returns-clause-some : goal.returns-clause-some
returns-clause-some c = λ domain pieces some checked. some_proof domain pieces checked some

pub returns-clause-limit : goal.returns-clause-limit
returns-clause-limit c = checked_refused
