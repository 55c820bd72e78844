use Rattle.crn_feasible.proofs.Points.{full_rows, elimination_meets}
use Rattle.crn_feasible.proofs.Certificates.{elimination_refutes}
use Rattle.crn_feasible.proofs.Long.{elimination-long}
use Rattle.crn_feasible.proofs.laws.answers.Goals as goal

pub returns : goal.returns
returns c = record { point = λ s p h e. elimination_meets s p (full_rows s h) e; long = elimination-long; certificate = elimination_refutes }
