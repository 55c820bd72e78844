use Rattle.crn_cert_text.proofs.certificates.proves.Goals as goal

pub returns : goal.returns
returns c = (
  λ t. let h = c.refutes.ensures.exact.0 t in record { small = h.0; certificate = h.1 },
  λ p. c.refutes.ensures.exact.1 (p.small, p.certificate),
)
