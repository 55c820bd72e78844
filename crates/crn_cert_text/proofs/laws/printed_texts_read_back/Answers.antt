use Rattle.crn_cert_text.proofs.PrintedTexts.{prints}
use Rattle.crn_cert_text.proofs.laws.printed_texts_read_back.Goals as goal

pub returns : goal.returns
returns c = λ f lines fitting fits few readable. prints f lines fitting fits few readable
