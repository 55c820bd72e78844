use Rattle.std.proofs.Common.{string_bytes, ◌∷◌, [], map, ap, ◌∙◌, ◌++◌, sym}
use Rattle.std.proofs.lemmas.Result.{on_ok_weaker}
use Rattle.crn_token.specs.Printed.{printed}
use Rattle.crn_net_text.specs.NetworkText.{input_line, context_lines, output_line}
use Rattle.crn_net_text.proofs.Printing.{groups_written}
use Rattle.crn_net_text.proofs.print.write_all_ends.Goals as goal

pub returns : goal.returns
returns c =
    on_ok_weaker c.write_output.result
    (groups_written (string_bytes c.args.out.now) _ _ _ (map input_line c.args.network.now.inputs) (context_lines c.args.network.now.context) (output_line c.args.network.now.output ∷ [])
    (c.in_ok-write_inputs.ensures ∙ ap (λ es. string_bytes c.args.out.now ++ printed (map input_line es)) c.inputs.ensures.value)
    (c.in_ok-write_context.ensures ∙ ap (λ k. string_bytes c.write_inputs.new.out ++ printed (context_lines k)) c.context.ensures.value))
    (rw (sym c.output.ensures.value) c.write_output.ensures)
