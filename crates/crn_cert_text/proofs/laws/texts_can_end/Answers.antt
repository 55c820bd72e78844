use Rattle.crn_cert_text.proofs.ReadTexts.{proved_can_end}
use Rattle.crn_cert_text.proofs.laws.texts_can_end.Goals as goal

pub returns : goal.returns
returns c = proved_can_end
