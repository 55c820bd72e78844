use Rattle.crn_program.proofs.CorrectPieces.{direct_right}
use Rattle.crn_program.proofs.laws.direct_is_right.Goals as goal

pub returns : goal.returns
returns c = λ words bytes text row answer. direct_right words bytes text answer row
