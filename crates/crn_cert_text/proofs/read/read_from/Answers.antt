use Rattle.std.proofs.Common.{drop, ap₂, subst}
use Rattle.crn_token.specs.Plain.{plain_lines}
use Rattle.crn_cert_text.specs.Text.{GivesProof, lines_answer}
use Rattle.crn_cert_text.proofs.read.read_from.Goals as goal

pub returns : goal.returns
returns c =
    let begins = ap₂ (λ n t. lines_answer c.args.bytes.now (drop n (plain_lines t))) c.new-source.ensures.index c.new-source.ensures.text in
    subst (GivesProof c.read_lines.result) begins c.read_lines.ensures.answer
