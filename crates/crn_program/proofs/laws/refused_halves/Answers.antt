use Rattle.std.proofs.Common.{length, arith}
use Rattle.crn_program.proofs.HalfCauses.{half_is_legal, all_go, none_where_all_go, first_unfit, unfit_first}
use Rattle.crn_program.proofs.laws.refused_halves.Goals as goal

pub returns-clause-cause : goal.returns-clause-cause
returns-clause-cause c net ok z a r = (first_unfit net ok z a (length net.reactions) r (omega arith), unfit_first net ok z a r)

pub returns-clause-none : goal.returns-clause-none
returns-clause-none c net ok z a = (all_go net ok z a (length net.reactions) (omega arith), none_where_all_go net ok z a (length net.reactions) (omega arith))

pub returns-clause-legal : goal.returns-clause-legal
returns-clause-legal c net ok r low high d state here = half_is_legal net ok r low high d state here
