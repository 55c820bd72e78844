use Rattle.crn_grammar.proofs.TableLaws.{right_is}
use Rattle.crn_grammar.proofs.right_answer_is_one.Goals as goal

pub returns : goal.returns
returns g c = λ table number end lines a can_end is. right_is table can_end number end lines a is
