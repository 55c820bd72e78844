use Rattle.crn_net_text.proofs.Prints.{network_are, lines_are, answer_is_network}
use Rattle.crn_net_text.proofs.laws.printed_reads_back.Goals as goal

pub returns-clause-tokens : goal.returns-clause-tokens
returns-clause-tokens c = network_are

pub returns-clause-lines : goal.returns-clause-lines
returns-clause-lines c = lines_are

pub returns-clause-answer : goal.returns-clause-answer
returns-clause-answer c = answer_is_network
