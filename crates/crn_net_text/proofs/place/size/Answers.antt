use Rattle.std.proofs.Common.{map, sym, ap, ◌∙◌, subst}
use Rattle.crn_token.specs.Plain.{plain_token}
use Rattle.crn_grammar.specs.Reading.{judged, Gives}
use Rattle.crn_net_text.specs.Grammar.{limit}
use Rattle.crn_net_text.specs.Reading.{place_of}
use Rattle.crn_token.proofs.LineLaws.{rest_map}
use Rattle.crn_net_text.proofs.Readers.{size_by}
use Rattle.crn_net_text.proofs.place.size.Goals as goal

pub returns-in-Some : goal.returns-in-Some
returns-in-Some c =
    let pt = plain_token c.args.bytes.now in
    subst (λ o. Gives place_of c.sized.result (judged limit c.args.line o))
    (size_by c.args.rails c.args.context (map pt c.args.tokens.now) (map pt c.rest_of.result.now) _ (sym c.begins.ensures ∙ c.if-begins.true)
    (ap (map pt) c.rest_of.ensures ∙ sym (rest_map pt c.args.tokens.now)) (c.in-Some.ensures c.args.bytes.now))
    c.sized.ensures

pub returns-in-None : goal.returns-in-None
returns-in-None c =
    let pt = plain_token c.args.bytes.now in
    ap (judged limit c.args.line) (sym (size_by c.args.rails c.args.context (map pt c.args.tokens.now) (map pt c.rest_of.result.now) _ (sym c.begins.ensures ∙ c.if-begins.true)
    (ap (map pt) c.rest_of.ensures ∙ sym (rest_map pt c.args.tokens.now)) (c.in-None.ensures c.args.bytes.now)))
