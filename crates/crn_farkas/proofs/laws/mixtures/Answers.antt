use Rattle.crn_farkas.proofs.Mixing.{get_or-mixed, value-mixed}
use Rattle.crn_farkas.proofs.laws.mixtures.Goals as goal

pub returns : goal.returns
returns c = record { columns = λ a b r s. get_or-mixed a r b s; values = λ a b r s. value-mixed a r b s }
