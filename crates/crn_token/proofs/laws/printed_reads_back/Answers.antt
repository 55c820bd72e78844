use Rattle.crn_token.proofs.PrintedLaws.{text_reads}
use Rattle.crn_token.proofs.laws.printed_reads_back.Goals as goal

pub returns-clause-count : goal.returns-clause-count
returns-clause-count c = λ lines fine. (text_reads lines fine).0

pub returns-clause-lines : goal.returns-clause-lines
returns-clause-lines c = λ lines fine. (text_reads lines fine).1
