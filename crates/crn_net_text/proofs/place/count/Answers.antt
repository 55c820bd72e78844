use Rattle.std.proofs.Common.{map, sym, ap, ◌∙◌}
use Rattle.crn_token.specs.Plain.{plain_token}
use Rattle.crn_net.specs.Views.{network_of, reactions_of}
use Rattle.crn_grammar.specs.Reading.{judged}
use Rattle.crn_net_text.specs.Grammar.{limit}
use Rattle.crn_token.proofs.LineLaws.{rest_map}
use Rattle.crn_net_text.proofs.Readers.{count_by, count_past, count_low}
use Rattle.crn_net_text.proofs.place.count.Goals as goal

pub returns-then-reactions-gt-MOST_REACTIONS : goal.returns-then-reactions-gt-MOST_REACTIONS
returns-then-reactions-gt-MOST_REACTIONS c =
    let pt = plain_token c.args.bytes.now in
    ap (judged limit c.args.line) (sym (count_by (network_of c.args.parts) (map pt c.args.tokens.now) (map pt c.rest_of.result.now) _ (sym c.begins.ensures ∙ c.if-begins.true)
    (ap (map pt) c.rest_of.ensures ∙ sym (rest_map pt c.args.tokens.now)) (c.in-Some.ensures c.args.bytes.now)))
    ∙ count_past c.args.line c.in-Some.reactions (network_of c.args.parts) (ap reactions_of c.requires) c.if-reactions-gt-MOST_REACTIONS.true

pub returns-else-reactions-gt-MOST_REACTIONS : goal.returns-else-reactions-gt-MOST_REACTIONS
returns-else-reactions-gt-MOST_REACTIONS c =
    let pt = plain_token c.args.bytes.now in
    ap (judged limit c.args.line) (sym (count_by (network_of c.args.parts) (map pt c.args.tokens.now) (map pt c.rest_of.result.now) _ (sym c.begins.ensures ∙ c.if-begins.true)
    (ap (map pt) c.rest_of.ensures ∙ sym (rest_map pt c.args.tokens.now)) (c.in-Some.ensures c.args.bytes.now)))
    ∙ count_low c.args.line c.in-Some.reactions (network_of c.args.parts) (ap reactions_of c.requires) c.if-reactions-gt-MOST_REACTIONS.false

pub returns-in-None : goal.returns-in-None
returns-in-None c =
    let pt = plain_token c.args.bytes.now in
    ap (judged limit c.args.line) (sym (count_by (network_of c.args.parts) (map pt c.args.tokens.now) (map pt c.rest_of.result.now) _ (sym c.begins.ensures ∙ c.if-begins.true)
    (ap (map pt) c.rest_of.ensures ∙ sym (rest_map pt c.args.tokens.now)) (c.in-None.ensures c.args.bytes.now)))
