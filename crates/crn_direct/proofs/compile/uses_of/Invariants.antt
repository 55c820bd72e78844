use Rattle.std.proofs.Common.{◌≡◌, ◌++◌, drop}
use Rattle.crn_direct.specs.Layout as plain
use Rattle.crn_direct.proofs.compile.uses_of.Given as goal

-- the uses so far, and those of the forms that are left
abbrev pub invariant-loop-form : goal.invariant-loop-form
invariant-loop-form l = l.uses.items ++ plain.uses_of (drop l.form-index l.forms) ≡ plain.uses_of l.forms
