use Rattle.crn_program.proofs.Correctness.{run_right}
use Rattle.crn_program.proofs.laws.run_is_right.Goals as goal

pub returns : goal.returns
returns c = λ words bytes text row answer. run_right words bytes text answer row
