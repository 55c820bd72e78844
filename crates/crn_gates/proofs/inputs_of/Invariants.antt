use Rattle.std.proofs.Common.{◌≡◌, ◌-◌, ◌++◌}
use Rattle.crn_gates.specs.Drafts.{inputs_after, inputs_of}
use Rattle.crn_gates.proofs.inputs_of.Given as goal

abbrev pub invariant-loop-earlier : goal.invariant-loop-earlier
invariant-loop-earlier l = l.inputs.items ++ inputs_after l.rails l.earlier (l.variables - l.earlier) ≡ inputs_of l.rails l.variables
