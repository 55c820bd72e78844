use Rattle.std.proofs.Common.{Vec, Global, ℕ, ◌≡◌, map, sym, ap, ◌∙◌, subst}
use Rattle.std.proofs.lemmas.List.{drop-map, length-map}
use Rattle.std.specs.Prelude.{IfOk}
use Rattle.std.specs.Option.{option_map}
use Rattle.crn_token.specs.Plain.{plain_token}
use Rattle.crn_net.specs.declared.Part.{Part}
use Rattle.crn_net.specs.Views.{parts_of, reaction_of}
use Rattle.crn_net_text.specs.Grammar.{side_at}
use Rattle.crn_net_text.proofs.Readers.{reaction_is}
use Rattle.crn_net_text.proofs.side.reaction_of.Goals as goal

pub returns-in-Some : goal.returns-in-Some
returns-in-Some c =
    let pt = plain_token c.args.bytes.now in
    let ts = c.args.tokens.now in
    subst (λ o. IfOk c.reaction_with.result (λ found. option_map reaction_of found ≡ o))
    (reaction_is c.args.species c.in-Some.taken (parts_of c.in-Some.takes.items) (map pt ts) (map pt c.after.result.now)
    (sym (ap (option_map (λ (q : Vec Part Global × ℕ). (parts_of q.0.items, q.1))) c.in-Some.is) ∙ c.in_ok-takes.ensures ∙ ap (λ k. side_at k 0 c.args.species (map pt ts)) (sym (length-map ts pt)))
    (ap (map pt) c.after.ensures ∙ sym (drop-map pt c.in-Some.taken ts)))
    c.reaction_with.ensures
