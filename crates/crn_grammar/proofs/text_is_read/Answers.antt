use Rattle.crn_grammar.proofs.TableLaws.{read_is}
use Rattle.crn_grammar.proofs.text_is_read.Goals as goal

pub returns : goal.returns
returns g c = λ table number end lines f text low. read_is table number end lines f text low
