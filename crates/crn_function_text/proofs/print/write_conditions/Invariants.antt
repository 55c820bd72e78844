use Rattle.std.proofs.Common.{◌≡◌, ◌++◌, take, map, string_bytes}
use Rattle.std.specs.Prelude.{All}
use Rattle.crn_token.specs.Printed.{printed}
use Rattle.crn_form_text.specs.Printing.{AreFracsOf}
use Rattle.crn_function_text.specs.Printing.{when_line}
use Rattle.crn_function_text.proofs.print.write_conditions.Given as goal

-- the lines so far, of numbers that fit
abbrev pub invariant-loop-condition : goal.invariant-loop-condition
invariant-loop-condition l = (string_bytes l.out ≡ string_bytes l.fn.out ++ printed (map (when_line l.variables) (take l.condition-index l.conditions))) × All (AreFracsOf l.variables) (take l.condition-index l.conditions)
