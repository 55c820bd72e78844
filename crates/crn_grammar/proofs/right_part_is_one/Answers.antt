use Rattle.crn_grammar.proofs.RightParts.{right_part_is}
use Rattle.crn_grammar.proofs.right_part_is_one.Goals as goal

pub returns : goal.returns
returns g c = λ table goes_on number end lines a can_end is. right_part_is table goes_on number end can_end lines a is
