use Rattle.std.proofs.Common.{Vec, Global, map, sym, ap, ◌∙◌}
use Rattle.crn_token.specs.Plain.{plain_token}
use Rattle.std.specs.Option.{option_map}
use Rattle.crn_net.specs.declared.Part.{Part}
use Rattle.crn_net.specs.Views.{parts_of}
use Rattle.crn_token.proofs.LineLaws.{rest_map}
use Rattle.crn_net_text.proofs.Readers.{reaction_none, reaction_by}
use Rattle.crn_net_text.proofs.side.reaction_with.Goals as goal

pub returns-then-not-is_arrow : goal.returns-then-not-is_arrow
returns-then-not-is_arrow c =
    reaction_none c.args.species (parts_of c.args.takes.items) (map (plain_token c.args.bytes.now) c.args.tokens.now) (sym (c.is_arrow.ensures c.args.bytes.now) ∙ c.if-not-is_arrow.true)

pub returns-in-Some : goal.returns-in-Some
returns-in-Some c =
    let pt = plain_token c.args.bytes.now in
    reaction_by c.args.species (parts_of c.args.takes.items) (map pt c.args.tokens.now) (map pt c.rest_of.result.now) _ (sym (c.is_arrow.ensures c.args.bytes.now) ∙ c.if-not-is_arrow.false)
    (ap (map pt) c.rest_of.ensures ∙ sym (rest_map pt c.args.tokens.now)) (sym (ap (option_map (λ (v : Vec Part Global). parts_of v.items)) c.in-Some.is) ∙ c.in_ok-gives.ensures)
