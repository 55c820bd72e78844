use Rattle.std.proofs.Common.{map, sym, ap, refl, ◌∙◌}
use Rattle.std.specs.Option.{option_map, option_and_then}
use Rattle.crn_token.specs.Plain.{plain_token}
use Rattle.crn_token.specs.Words.{rest_of}
use Rattle.crn_net_text.specs.Grammar.{Titled, rails_of}
use Rattle.crn_token.proofs.LineLaws.{rest_map}
use Rattle.crn_net_text.proofs.Readers.{title_by}
use Rattle.crn_net_text.proofs.place.title_with.Goals as goal

pub returns-in-Some-version_of : goal.returns-in-Some-version_of
returns-in-Some-version_of c =
    let pt = plain_token c.args.bytes.now in
    c.titled.ensures
    ∙ ap (option_and_then (λ two. option_map (λ r. Titled r two) (rails_of (map pt c.rest_of.result.now)))) c.in-Some-version_of.ensures
    ∙ title_by (map pt c.args.tokens.now) (map pt c.rest_of.result.now) _ (c.in-Some.ensures.value c.args.bytes.now) (ap (map pt) c.rest_of.ensures ∙ sym (rest_map pt c.args.tokens.now))

pub returns-in-None-version_of : goal.returns-in-None-version_of
returns-in-None-version_of c =
    let pt = plain_token c.args.bytes.now in
    ap (option_and_then (λ two. option_map (λ r. Titled r two) (rails_of (rest_of (map pt c.args.tokens.now))))) c.in-None-version_of.ensures
    ∙ title_by (map pt c.args.tokens.now) (rest_of (map pt c.args.tokens.now)) _ (c.in-Some.ensures.value c.args.bytes.now) refl

pub returns-in-None : goal.returns-in-None
returns-in-None c = title_by (map (plain_token c.args.bytes.now) c.args.tokens.now) (rest_of (map (plain_token c.args.bytes.now) c.args.tokens.now)) _ (c.in-None.ensures.value c.args.bytes.now) refl
