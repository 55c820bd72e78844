use Rattle.std.proofs.Common.{subst}
use Rattle.crn_farkas.specs.Systems.{System}
use Rattle.crn_cert_text.specs.Making.{IsVerdict}
use Rattle.crn_cert_text.proofs.Solved.{verdict_of}
use Rattle.crn_cert_text.proofs.solving.ask.Goals as goal

pub returns-in-Ok : goal.returns-in-Ok
returns-in-Ok c =
    subst (λ (s : System). IsVerdict s c.in-Ok.verdict) c.in_ok-system.ensures (verdict_of c.in_ok-system.system.system c.in-Ok.verdict c.in-Ok.ensures.right c.in-Ok.ensures.long)
