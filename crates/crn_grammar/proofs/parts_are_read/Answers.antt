use Rattle.crn_grammar.proofs.RightParts.{part_found, part_is}
use Rattle.crn_grammar.proofs.parts_are_read.Goals as goal

pub returns : goal.returns
returns g c = λ table goes_on number end lines f rest. (λ is. part_found table goes_on number end lines f rest is, λ is. part_is table goes_on number end lines f rest is)
