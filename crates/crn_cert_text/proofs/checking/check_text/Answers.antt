use Rattle.std.proofs.Common.{◌≡◌, ℕ, List, length, sym, ap, ◌∙◌, subst, arith, true≢false}
use Rattle.crn_cert_text.specs.ProvedText.{proved_of}
use Rattle.crn_cert_text.specs.TextAnswers.{IsRefusedText, unproved_of}
use Rattle.crn_cert_text.proofs.TextVerdicts.{text_of, accepted_of, proved_of_text, refused_of}
use Rattle.crn_cert_text.proofs.checking.check_text.Goals as goal

pub returns-then-not-is_given_by_pieces-clause-verdict : goal.returns-then-not-is_given_by_pieces-clause-verdict
returns-then-not-is_given_by_pieces-clause-verdict c = (
  proved_of c.in-Ok.proved,
  text_of c.args.bytes.now c.in-Ok.proved c.in-Ok.ensures.answer c.in-Ok.ensures.domain,
  λ given. true≢false (sym (c.is_given_by_pieces.ensures.1 given) ∙ c.if-not-is_given_by_pieces.true),
)

pub returns-in-Ok-verify-clause-verdict : goal.returns-in-Ok-verify-clause-verdict
returns-in-Ok-verify-clause-verdict c =
    let count : c.len.result ≡ length c.in-Ok.proved.proof.lines.items = omega (arith, c.len.ensures) in
    accepted_of c.args.bytes.now c.in-Ok.proved c.in-Ok.ensures.answer c.in-Ok.ensures.domain (c.is_given_by_pieces.ensures.0 c.if-not-is_given_by_pieces.false) c.in-Ok-verify.ensures.verdict c.len.result count

pub returns-in-Ok-verify-clause-proved : goal.returns-in-Ok-verify-clause-proved
returns-in-Ok-verify-clause-proved c =
    proved_of_text c.args.bytes.now c.in-Ok.proved c.in-Ok.ensures.answer c.in-Ok.ensures.domain (c.is_given_by_pieces.ensures.0 c.if-not-is_given_by_pieces.false) (c.in-Ok-verify.ensures.covers, c.in-Ok-verify.ensures.agree)

pub returns-clause-verdict : goal.returns-clause-verdict
returns-clause-verdict c =
    let told = c.unproved.ensures ∙ ap (λ (ns : List ℕ). unproved_of ns c.in-Ok.proved.end c.in-Err-verify.error) c.as_slice.ensures.value in
    subst (IsRefusedText c.args.bytes.now) (sym told)
    (refused_of c.args.bytes.now c.in-Ok.proved c.in-Ok.ensures.answer c.in-Ok.ensures.domain (c.is_given_by_pieces.ensures.0 c.if-not-is_given_by_pieces.false) c.in-Err-verify.error c.in-Err-verify.ensures.verdict c.in-Ok.proved.end c.in-Ok.ensures.end)
