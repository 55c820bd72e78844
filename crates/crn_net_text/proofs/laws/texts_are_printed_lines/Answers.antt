use Rattle.crn_net_text.proofs.Spells.{text_is_grammar}
use Rattle.crn_net_text.proofs.Spelled.{text_is_printed}
use Rattle.crn_net_text.proofs.laws.texts_are_printed_lines.Goals as goal

pub returns-clause-text : goal.returns-clause-text
returns-clause-text c = text_is_grammar

pub returns-clause-lines : goal.returns-clause-lines
returns-clause-lines c = text_is_printed
