use Rattle.crn_program.proofs.Correctness.{bulk_right}
use Rattle.crn_program.proofs.laws.bulk_is_right.Goals as goal

pub returns : goal.returns
returns c = λ words bytes text n row answer. bulk_right words bytes text answer n row
