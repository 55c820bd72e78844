use Rattle.crn_feasible.proofs.Points.{full_rows}
use Rattle.crn_feasible.proofs.FewRows as Few
use Rattle.crn_feasible.proofs.laws.few_rows.Goals as goal

pub returns : goal.returns
returns c = λ s h. Few.few_rows s (full_rows s h)
