use Rattle.std.proofs.Common.{map, sym, ap, ◌∙◌}
use Rattle.std.proofs.lemmas.List.{drop-map}
use Rattle.crn_token.specs.Plain.{plain_token}
use Rattle.crn_job.proofs.RunSteps.{given_is, given_none}
use Rattle.crn_job.proofs.run_tail.given_of.Goals as goal

pub returns-in-Some-one_number-clause-value : goal.returns-in-Some-one_number-clause-value
returns-in-Some-one_number-clause-value c =
    let pt = plain_token c.args.bytes.now in
    given_is c.args.low c.args.species _ (map pt c.args.tokens.now) (map pt c.after.result.now) _ c.in-Some.ensures.value (c.in-Some-one_number.ensures.value c.args.bytes.now)
    (ap (map pt) c.after.ensures ∙ sym (drop-map pt 2 c.args.tokens.now))

pub returns-in-None-one_number-clause-value : goal.returns-in-None-one_number-clause-value
returns-in-None-one_number-clause-value c =
    let pt = plain_token c.args.bytes.now in
    given_is c.args.low c.args.species _ (map pt c.args.tokens.now) (map pt c.after.result.now) _ c.in-Some.ensures.value (c.in-None-one_number.ensures.value c.args.bytes.now)
    (ap (map pt) c.after.ensures ∙ sym (drop-map pt 2 c.args.tokens.now))

pub returns-in-None-clause-value : goal.returns-in-None-clause-value
returns-in-None-clause-value c = given_none c.args.low c.args.species (map (plain_token c.args.bytes.now) c.args.tokens.now) c.in-None.ensures.value
