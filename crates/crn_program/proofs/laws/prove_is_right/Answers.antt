use Rattle.crn_program.proofs.CorrectPieces.{prove_right}
use Rattle.crn_program.proofs.laws.prove_is_right.Goals as goal

pub returns : goal.returns
returns c = λ words bytes text row answer. prove_right words bytes text answer row
