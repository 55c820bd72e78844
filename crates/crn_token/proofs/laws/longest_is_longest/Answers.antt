use Rattle.std.proofs.Common.{sym, ◌∙◌}
use Rattle.crn_token.proofs.Cut.{longest_is_piece, none_longer}
use Rattle.crn_token.proofs.laws.longest_is_longest.Goals as goal

pub returns-clause-piece : goal.returns-clause-piece
returns-clause-piece c = λ bytes some. longest_is_piece bytes some

pub returns-clause-longest : goal.returns-clause-longest
returns-clause-longest c = λ bytes n above within piece. let wrong = sym (none_longer bytes n above within) ∙ piece in cc
