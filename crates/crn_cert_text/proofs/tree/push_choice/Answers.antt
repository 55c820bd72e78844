use Rattle.std.proofs.Common.{◌++◌, ◌∷◌, [], take, sym, ap, ◌∙◌}
use Rattle.std.proofs.lemmas.List.{append_assoc}
use Rattle.crn_linear.specs.Rows.{violation}
use Rattle.crn_pieces.proofs.SearchSteps.{chosen_rows-is}
use Rattle.crn_cert_text.proofs.tree.push_choice.Goals as goal

pub returns : goal.returns
returns c =
    let row = c.index-own-k.result in
    let own = c.args.own.now in
    let k = c.args.k in
    c.in_ok-push.ensures.items ∙ ap (λ w. c.extend_from_slice.new.self.items ++ w ∷ []) c.opposite.ensures ∙ ap (λ l. l ++ violation row ∷ []) c.in_ok-extend_from_slice.ensures.items
    ∙ append_assoc c.args.rows.now.items (take k own) (violation row ∷ []) ∙ ap (λ l. c.args.rows.now.items ++ l) (sym (chosen_rows-is own k row c.requires c.index-own-k.is))
