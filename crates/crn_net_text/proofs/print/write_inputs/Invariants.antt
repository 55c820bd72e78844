use Rattle.std.proofs.Common.{◌≡◌, ◌++◌, take, map, string_bytes}
use Rattle.crn_token.specs.Printed.{printed}
use Rattle.crn_net_text.specs.NetworkText.{input_line}
use Rattle.crn_net_text.proofs.print.write_inputs.Given as goal

-- the lines of the inputs so far
abbrev pub invariant-loop-ends : goal.invariant-loop-ends
invariant-loop-ends l = string_bytes l.out ≡ string_bytes l.fn.out ++ printed (map input_line (take l.ends-index l.inputs))
