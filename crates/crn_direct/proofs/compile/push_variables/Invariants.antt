use Rattle.std.proofs.Common.{◌≡◌, ◌+◌, ◌++◌, drop}
use Rattle.crn_direct.specs.Layout.{variables_from}
use Rattle.crn_direct.proofs.compile.push_variables.Given as goal

-- the variables so far, and those of the columns that are left
abbrev pub invariant-loop-column : goal.invariant-loop-column
invariant-loop-column l = l.uses.items ++ variables_from (l.column + 1) (drop l.column l.form) ≡ l.initial.uses.items ++ variables_from 1 l.form
