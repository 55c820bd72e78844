use Rattle.crn_grammar.proofs.TableLaws.{answer_is}
use Rattle.crn_grammar.proofs.answer_is_right.Goals as goal

pub returns : goal.returns
returns g c = λ table number end lines can_end. answer_is table can_end number end lines
