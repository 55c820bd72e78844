use Rattle.std.proofs.Common.{sym, ◌∙◌}
use Rattle.crn_token.proofs.Longest.{longest_letters}
use Rattle.crn_token.proofs.Fronts.{token_word}
use Rattle.crn_token.proofs.word_front.Goals as goal

pub returns-clause-len : goal.returns-clause-len
returns-clause-len c = c.letters-len.ensures.value ∙ sym (longest_letters c.args.rest.now c.requires.some c.requires.letter)

pub returns-clause-token : goal.returns-clause-token
returns-clause-token c = rw c.letters-len.ensures.value (sym (token_word c.args.line c.args.at c.args.rest.now c.requires.some c.requires.letter))
