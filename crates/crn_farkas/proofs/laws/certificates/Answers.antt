use Rattle.crn_farkas.proofs.Motzkin.{no_point}
use Rattle.crn_farkas.proofs.laws.certificates.Goals as goal

pub returns : goal.returns
returns c = no_point
