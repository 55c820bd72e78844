use Rattle.std.proofs.Common.{◌≡◌, ◌++◌, take}
use Rattle.crn_gates.specs.Terms.{terms_of}
use Rattle.crn_dual.specs.Layout.{uses_of_terms}
use Rattle.crn_dual.proofs.compile.push_form.Given as goal

-- the uses so far are those of the first columns
abbrev pub invariant-loop-column : goal.invariant-loop-column
invariant-loop-column l = l.uses.items ≡ l.initial.uses.items ++ uses_of_terms l.variables (terms_of (take l.column l.form))
