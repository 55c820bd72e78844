use Rattle.crn_grammar.proofs.FollowedTexts.{parted, joined}
use Rattle.crn_grammar.proofs.texts_in_two_parts.Goals as goal

pub returns : goal.returns
returns g c = λ table goes_on rest value lines whole. (λ is. parted table goes_on rest value lines whole is.0 is.1, λ parts. joined table goes_on rest value lines whole parts)
