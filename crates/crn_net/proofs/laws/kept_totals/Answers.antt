use Rattle.crn_net.proofs.Balance.{all_lead}
use Rattle.crn_net.proofs.laws.kept_totals.Goals as goal

pub returns : goal.returns
returns c = all_lead
