use Rattle.std.proofs.Common.{◌≡◌, ◌++◌, take, map, string_bytes}
use Rattle.std.specs.Prelude.{All}
use Rattle.crn_token.specs.Printed.{printed}
use Rattle.crn_form_text.specs.Printing.{AreFracsOf}
use Rattle.crn_function_text.specs.Printing.{form_line}
use Rattle.crn_function_text.proofs.print.write_forms.Given as goal

-- the lines so far, of numbers that fit
abbrev pub invariant-loop-form : goal.invariant-loop-form
invariant-loop-form l = (string_bytes l.out ≡ string_bytes l.fn.out ++ printed (map (form_line l.variables) (take l.form-index l.forms))) × All (AreFracsOf l.variables) (take l.form-index l.forms)
