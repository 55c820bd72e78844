use Rattle.crn_segments.proofs.Runs.{goes_legal}
use Rattle.crn_segments.proofs.Steps.{legal_goes}
use Rattle.crn_segments.proofs.laws.legal_steps.Goals as goal

pub returns : goal.returns
returns c net ok x u seg = (λ h. goes_legal net x u seg h, λ h. legal_goes net x u ok seg h.0 h.1)
