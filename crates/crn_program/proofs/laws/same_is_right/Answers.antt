use Rattle.crn_program.proofs.CorrectPieces.{same_right}
use Rattle.crn_program.proofs.laws.same_is_right.Goals as goal

pub returns : goal.returns
returns c = λ words bytes text row answer. same_right words bytes text answer row
