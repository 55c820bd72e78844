use Rattle.crn_grammar.proofs.RightParts.{part_answer_is}
use Rattle.crn_grammar.proofs.part_answer_is_right.Goals as goal

pub returns : goal.returns
returns g c = λ table goes_on number end lines can_end. part_answer_is table goes_on number end can_end lines
