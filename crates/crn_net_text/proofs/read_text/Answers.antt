use Rattle.std.proofs.Common.{drop, sym, subst, ◌∙◌, ap}
use Rattle.crn_token.specs.Plain.{plain_line}
use Rattle.crn_grammar.specs.Reading.{Refuses}
use Rattle.crn_grammar.proofs.Turns.{passed_on}
use Rattle.crn_net.specs.Network.{Network}
use Rattle.crn_net_text.specs.Grammar.{network_answer, lines_answer}
use Rattle.crn_net_text.proofs.Steps.{text_read, text_goes_on, text_refused}
use Rattle.crn_net_text.proofs.read_text.Goals as goal

pub returns-in-Some : goal.returns-in-Some
returns-in-Some c =
    let bytes = c.args.bytes.now in
    let left = c.read_part.new.source.left in
    ap (lines_answer bytes) (sym c.in_ok-source.ensures.left)
    ∙ text_goes_on bytes c.in_ok-source.source.left left c.in_ok-network.network (plain_line c.read_part.new.source.text c.in-Some.line.now) (drop 1 left) c.in_ok-network.ensures.answer c.in-Some.ensures

pub returns : goal.returns
returns c =
    let bytes = c.args.bytes.now in
    ap (lines_answer bytes) (sym c.in_ok-source.ensures.left)
    ∙ text_read bytes c.in_ok-source.source.left c.read_part.new.source.left c.in_ok-network.network c.in_ok-network.ensures.answer c.in_default.ensures

pub returns-in_err-network : goal.returns-in_err-network
returns-in_err-network c =
    let bytes = c.args.bytes.now in
    let e = c.in_err-network.field-0.0 in
    passed_on (λ (n : Network). n) c.from_residual-in_err-network.result e (network_answer bytes) c.from_residual-in_err-network.ensures.1
    (subst (λ lines. Refuses e (lines_answer bytes lines)) c.in_ok-source.ensures.left (text_refused bytes c.in_ok-source.source.left e c.in_err-network.ensures.answer))
