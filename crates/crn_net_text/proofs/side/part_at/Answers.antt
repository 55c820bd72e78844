use Rattle.std.proofs.Common.{◌<◌, map, sym, ap, ◌∙◌, Some, arith}
use Rattle.crn_token.specs.Plain.{plain_token}
use Rattle.crn_net_text.specs.Grammar.{many}
use Rattle.crn_token.proofs.LineLaws.{rest_map}
use Rattle.crn_net_text.proofs.Tokens.{same_count}
use Rattle.crn_net_text.proofs.Readers.{part_counted, part_few, part_one}
use Rattle.crn_net_text.proofs.side.part_at.Goals as goal

pub returns-in-Some-species_at-clause-value : goal.returns-in-Some-species_at-clause-value
returns-in-Some-species_at-clause-value c =
    let pt = plain_token c.args.bytes.now in
    let some : 1 < c.in-Some.count = omega (arith, c.if-count-gt1.true) in
    ap (λ k. Some (many k c.in-Some-species_at.species, 3)) (same_count c.in-Some.count c.in-Some.ensures.fits)
    ∙ part_counted c.args.low c.args.species c.in-Some.count (map pt c.args.tokens.now) (map pt c.rest_of.result.now) _ (c.in-Some.ensures.value c.args.bytes.now) some
    (ap (map pt) c.rest_of.ensures ∙ sym (rest_map pt c.args.tokens.now)) c.in-Some-species_at.ensures.value

pub returns-in-None-species_at-clause-value : goal.returns-in-None-species_at-clause-value
returns-in-None-species_at-clause-value c =
    let pt = plain_token c.args.bytes.now in
    let some : 1 < c.in-Some.count = omega (arith, c.if-count-gt1.true) in
    part_counted c.args.low c.args.species c.in-Some.count (map pt c.args.tokens.now) (map pt c.rest_of.result.now) _ (c.in-Some.ensures.value c.args.bytes.now) some
    (ap (map pt) c.rest_of.ensures ∙ sym (rest_map pt c.args.tokens.now)) c.in-None-species_at.ensures.value

pub returns-else-count-gt1-clause-value : goal.returns-else-count-gt1-clause-value
returns-else-count-gt1-clause-value c =
    part_few c.args.low c.args.species c.in-Some.count (map (plain_token c.args.bytes.now) c.args.tokens.now) (c.in-Some.ensures.value c.args.bytes.now) c.if-count-gt1.false

pub returns-in-None-species_at-2-clause-value : goal.returns-in-None-species_at-2-clause-value
returns-in-None-species_at-2-clause-value c =
    part_one c.args.low c.args.species (map (plain_token c.args.bytes.now) c.args.tokens.now) _ (c.in-None.ensures.value c.args.bytes.now) c.in-None-species_at-2.ensures.value
