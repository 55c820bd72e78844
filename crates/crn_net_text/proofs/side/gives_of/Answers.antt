use Rattle.std.proofs.Common.{◌≡◌, map, Some, sym, ap, ◌∙◌, subst}
use Rattle.std.specs.Prelude.{IfOk}
use Rattle.std.specs.Option.{option_map}
use Rattle.crn_token.specs.Plain.{plain_token}
use Rattle.crn_net.specs.Views.{parts_of}
use Rattle.crn_net_text.proofs.Readers.{gives_nothing, gives_other}
use Rattle.crn_net_text.proofs.side.gives_of.Goals as goal

pub returns-then-is_nothing : goal.returns-then-is_nothing
returns-then-is_nothing c =
    ap (λ l. Some (parts_of l)) c.new.ensures.items
    ∙ sym (gives_nothing c.args.species (map (plain_token c.args.bytes.now) c.args.tokens.now) (sym (c.is_nothing.ensures c.args.bytes.now) ∙ c.if-is_nothing.true))

pub returns-else-is_nothing : goal.returns-else-is_nothing
returns-else-is_nothing c =
    subst (λ o. IfOk c.side_of.result (λ found. option_map (λ v. parts_of v.items) found ≡ o))
    (sym (gives_other c.args.species (map (plain_token c.args.bytes.now) c.args.tokens.now) (sym (c.is_nothing.ensures c.args.bytes.now) ∙ c.if-is_nothing.false)))
    c.side_of.ensures
