use Rattle.std.proofs.Common.{string_bytes, ◌≡◌, ◌++◌, ◌∙◌, ap, sym, subst, rules}
use Rattle.crn_token.specs.Plain.{plain_lines}
use Rattle.crn_grammar.specs.Table.{IsText, PassesNone}
use Rattle.crn_net_text.specs.NetworkText.{header_lines, ends_lines, reaction_lines, network_text}
use Rattle.crn_net_text.specs.Grammar.{network_table}
use Rattle.crn_net_text.proofs.Printing.{groups_written}
use Rattle.crn_net_text.proofs.Prints.{answer_is_network}
use Rattle.crn_net_text.proofs.print.print_network.Goals as goal

text_is : (c : goal.After-into_bytes) → c.into_bytes.result.items ≡ network_text c.args.network.now
text_is c =
    let net = c.args.network.now in
    let text : c.into_bytes.result.items ≡ string_bytes c.write_reactions.new.out = search rules in
    text
    ∙ groups_written (string_bytes c.new-out.result) _ _ _ (header_lines net) (ends_lines net) (reaction_lines net) c.in_ok-write_header.ensures.text c.in_ok-write_all_ends.ensures c.in_ok-write_reactions.ensures.text
    ∙ ap (λ l. l ++ network_text net) c.new-out.ensures.bytes

pub returns-clause-text : goal.returns-clause-text
returns-clause-text c = text_is c

pub returns-clause-spells : goal.returns-clause-spells
returns-clause-spells c =
    let net = c.args.network.now in
    subst (λ bytes. IsText network_table (plain_lines bytes) net) (sym (text_is c)) (answer_is_network net c.write_header.ensures.valid c.in_ok-write_reactions.ensures.small).0

pub returns-clause-limits : goal.returns-clause-limits
returns-clause-limits c =
    let net = c.args.network.now in
    subst (λ bytes. PassesNone network_table (plain_lines bytes)) (sym (text_is c)) (answer_is_network net c.write_header.ensures.valid c.in_ok-write_reactions.ensures.small).1
