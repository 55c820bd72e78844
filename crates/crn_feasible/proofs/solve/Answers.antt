use Rattle.std.proofs.Common.{subst}
use Rattle.crn_feasible.specs.Elimination.{elimination}
use Rattle.crn_feasible.specs.Steps.{Ends}
use Rattle.crn_feasible.proofs.Points.{full_rows, elimination_meets}
use Rattle.crn_feasible.proofs.Certificates.{elimination_refutes}
use Rattle.crn_feasible.proofs.Long.{elimination-long}
use Rattle.crn_feasible.proofs.solve.Goals as goal

pub returns-in-Ok-clause-right : goal.returns-in-Ok-clause-right
returns-in-Ok-clause-right c =
    let s = c.args.system.now.system in
    elimination_meets s c.in-Ok.point (full_rows s c.eliminate.ensures.valid) c.in-Ok.ensures.answer

pub returns-in-Err-Refuted-clause-right : goal.returns-in-Err-Refuted-clause-right
returns-in-Err-Refuted-clause-right c =
    let s = c.args.system.now.system in
    elimination_refutes s c.in-Err-Refuted.certificate (subst (Ends (elimination s)) c.in-Err-Refuted.field-0-is c.in-Err-Refuted.ensures.answer)

pub returns-in-Ok-clause-long : goal.returns-in-Ok-clause-long
returns-in-Ok-clause-long c = elimination-long c.args.system.now.system c.in-Ok.point c.in-Ok.ensures.answer
