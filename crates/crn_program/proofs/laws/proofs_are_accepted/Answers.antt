use Rattle.crn_program.proofs.CorrectPieces.{proof_accepted}
use Rattle.crn_program.proofs.laws.proofs_are_accepted.Goals as goal

pub returns : goal.returns
returns c = proof_accepted
