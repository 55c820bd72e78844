use Rattle.crn_function_text.proofs.PrintedText.{printed_text}
use Rattle.crn_function_text.proofs.PrintedBytes.{bytes_read}
use Rattle.crn_function_text.proofs.laws.printed_reads_back.Goals as goal

pub returns-clause-text : goal.returns-clause-text
returns-clause-text c = λ f fitting. (printed_text f fitting).0

pub returns-clause-limits : goal.returns-clause-limits
returns-clause-limits c = λ f fitting. (printed_text f fitting).1

pub returns-clause-bytes : goal.returns-clause-bytes
returns-clause-bytes c = λ f fitting fits. bytes_read f fitting.few fits
