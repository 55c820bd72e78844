use Rattle.crn_same.proofs.Comparing.{are_same, is_difference}
use Rattle.crn_same.proofs.laws.answers_are_true.Goals as goal

pub returns-clause-same : goal.returns-clause-same
returns-clause-same c = λ k f g fits_f fits_g s. are_same k f g fits_f fits_g s

pub returns-clause-point : goal.returns-clause-point
returns-clause-point c = λ k f g p fits_f fits_g r. is_difference k f g fits_f fits_g p r
