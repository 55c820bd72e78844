use Rattle.std.proofs.Common.{string_bytes, ◌<◌, length, [], ◌∷◌, ◌++◌, ap, ◌∙◌, subst, take_all, map, sym, arith}
use Rattle.std.specs.Prelude.{codes, All}
use Rattle.crn_token.specs.Printed.{printed}
use Rattle.crn_net_text.specs.NetworkText.{count_line, reaction_items, IsSmallReaction}
use Rattle.crn_net_text.proofs.Printing.{counts, lines_step, all_step, numbered_next}
use Rattle.crn_token.proofs.Joins.{printed-append}
use Rattle.crn_net_text.proofs.print.write_reactions.Goals as goal

pub write_reaction-requires-clause-takes : goal.write_reaction-requires-clause-takes
write_reaction-requires-clause-takes c = counts 0 _ c.reaction.result.now.takes.items c.reaction.ensures.valid.takes

pub write_reaction-requires-clause-gives : goal.write_reaction-requires-clause-gives
write_reaction-requires-clause-gives c = counts 0 _ c.reaction.result.now.gives.items c.reaction.ensures.valid.gives

pub loop-index-preserved : goal.loop-index-preserved
loop-index-preserved c =
    let count = c.reaction_count-count.ensures.value in
    let within : c.loop-index.index < length c.args.network.now.reactions = omega (arith, c.loop-index-test.true, count) in
    let here = c.reaction.ensures.value ∙ numbered_next c.args.network.now.reactions c.loop-index.index in (
      lines_step reaction_items (string_bytes c.args.out.now) (printed (count_line (codes "reactions") (length c.args.network.now.reactions) ∷ []))
          (string_bytes c.loop-index.out) (string_bytes c.write_reaction.new.out) c.args.network.now.reactions c.loop-index.index (record { takes = []; gives = [] })
          within c.loop-index.invariant.0
          (c.in_ok-write_reaction.ensures.text ∙ ap (λ r. string_bytes c.loop-index.out ++ printed (reaction_items r ∷ [])) here),
      all_step IsSmallReaction c.args.network.now.reactions c.loop-index.index (record { takes = []; gives = [] }) within c.loop-index.invariant.1
          (subst IsSmallReaction here c.in_ok-write_reaction.ensures.small),
    )

pub returns-clause-text : goal.returns-clause-text
returns-clause-text c =
    c.loop-index.invariant.0
    ∙ ap (λ rs. string_bytes c.args.out.now ++ (printed (count_line (codes "reactions") (length c.args.network.now.reactions) ∷ []) ++ printed (map reaction_items rs)))
    (take_all c.loop-index.index c.args.network.now.reactions (omega (arith, c.loop-index-test.false, c.reaction_count-count.ensures.value)))
    ∙ ap (λ l. string_bytes c.args.out.now ++ l) (sym (printed-append (count_line (codes "reactions") (length c.args.network.now.reactions) ∷ []) (map reaction_items c.args.network.now.reactions)))

pub returns-clause-small : goal.returns-clause-small
returns-clause-small c =
    subst (All IsSmallReaction) (take_all c.loop-index.index c.args.network.now.reactions (omega (arith, c.loop-index-test.false, c.reaction_count-count.ensures.value))) c.loop-index.invariant.1
