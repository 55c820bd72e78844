use Rattle.crn_same.proofs.SomeAnswer.{decided}
use Rattle.crn_same.proofs.laws.same_or_a_cause.Goals as goal

pub returns : goal.returns
returns c = λ k f g fits_f fits_g comparable_f comparable_g. decided k f g fits_f fits_g comparable_f comparable_g
