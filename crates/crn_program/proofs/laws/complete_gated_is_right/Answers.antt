use Rattle.crn_program.proofs.Correctness.{complete_gated_right}
use Rattle.crn_program.proofs.laws.complete_gated_is_right.Goals as goal

pub returns : goal.returns
returns c = λ words bytes text row answer. complete_gated_right words bytes text answer row
