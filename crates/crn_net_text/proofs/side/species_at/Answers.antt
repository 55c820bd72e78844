use Rattle.std.proofs.Common.{map, sym, ap, ◌∙◌}
use Rattle.crn_token.specs.Plain.{plain_token}
use Rattle.crn_token.proofs.LineLaws.{rest_map}
use Rattle.crn_net_text.proofs.Readers.{species_by}
use Rattle.crn_net_text.proofs.side.species_at.Goals as goal

pub returns-in-Some-clause-value : goal.returns-in-Some-clause-value
returns-in-Some-clause-value c =
    let pt = plain_token c.args.bytes.now in
    c.within.ensures.value
    ∙ species_by c.args.low c.args.species (map pt c.args.tokens.now) (map pt c.rest_of.result.now) _ (sym c.begins.ensures ∙ c.if-begins.true)
    (ap (map pt) c.rest_of.ensures ∙ sym (rest_map pt c.args.tokens.now)) (c.in-Some.ensures.value c.args.bytes.now)

pub returns-in-None-clause-value : goal.returns-in-None-clause-value
returns-in-None-clause-value c =
    let pt = plain_token c.args.bytes.now in
    species_by c.args.low c.args.species (map pt c.args.tokens.now) (map pt c.rest_of.result.now) _ (sym c.begins.ensures ∙ c.if-begins.true)
    (ap (map pt) c.rest_of.ensures ∙ sym (rest_map pt c.args.tokens.now)) (c.in-None.ensures.value c.args.bytes.now)
