use Rattle.crn_grammar.proofs.PartLaws.{answer_parts}
use Rattle.crn_grammar.proofs.part_comes_first.Goals as goal

pub returns : goal.returns
returns g c = λ table goes_on start next whole limit number end s lines. answer_parts table goes_on start next whole limit number end s lines
