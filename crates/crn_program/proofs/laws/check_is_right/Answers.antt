use Rattle.crn_program.proofs.CorrectPieces.{check_right}
use Rattle.crn_program.proofs.laws.check_is_right.Goals as goal

pub returns : goal.returns
returns c = λ words bytes text row answer. check_right words bytes text answer row
