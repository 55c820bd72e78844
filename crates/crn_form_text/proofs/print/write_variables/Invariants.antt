use Rattle.std.proofs.Common.{◌≤◌, take, string_bytes}
use Rattle.crn_form_text.proofs.WrittenLaws.{AreWritten}
use Rattle.crn_form_text.proofs.print.write_variables.Given as goal

-- the terms so far
abbrev pub invariant-loop-column : goal.invariant-loop-column
invariant-loop-column l = (l.column ≤ l.variables) × AreWritten (string_bytes l.fn.out) (string_bytes l.out) l.first (take l.column l.form)
