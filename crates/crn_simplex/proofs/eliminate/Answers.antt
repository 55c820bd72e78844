use Rattle.crn_simplex.proofs.Answering.{own_limit}
use Rattle.crn_simplex.proofs.eliminate.Goals as goal

pub returns-in-Err-clause-own : goal.returns-in-Err-clause-own
returns-in-Err-clause-own c = own_limit _ _ c.in-Err.ensures.answer

pub returns-then-is_refuted-clause-found : goal.returns-then-is_refuted-clause-found
returns-then-is_refuted-clause-found c = λ h. (c.is_refuted.ensures.excludes c.if-is_refuted.true).whole h.0 h.1.meets

pub returns-then-is_refuted-clause-excludes : goal.returns-then-is_refuted-clause-excludes
returns-then-is_refuted-clause-excludes c = λ _. c.is_refuted.ensures.excludes c.if-is_refuted.true

pub returns-then-is_refuted-clause-own : goal.returns-then-is_refuted-clause-own
returns-then-is_refuted-clause-own c = c.is_refuted.ensures.own c.if-is_refuted.true
