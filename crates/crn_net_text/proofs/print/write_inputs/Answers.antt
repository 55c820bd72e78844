use Rattle.std.proofs.Common.{string_bytes, []}
use Rattle.crn_net_text.specs.NetworkText.{input_line}
use Rattle.crn_net_text.proofs.Printing.{lines_step}
use Rattle.crn_net_text.proofs.print.write_inputs.Goals as goal

pub loop-ends-preserved : goal.loop-ends-preserved
loop-ends-preserved c =
    lines_step input_line (string_bytes c.args.out.now) [] (string_bytes c.loop-ends.out) (string_bytes c.write_input.new.out) c.args.inputs.now c.loop-ends.ends-index _
    c.loop-ends-test.true c.loop-ends.invariant c.in_ok-write_input.ensures
