use Rattle.std.proofs.Common.{◌≡◌, ◌++◌, List, take, drop, map}
use Rattle.crn_fraction.specs.Rational.{ℚ}
use Rattle.crn_function_text.proofs.columns.narrow_forms.Given as goal

abbrev pub invariant-loop-form : goal.invariant-loop-form
invariant-loop-form l =
    map (λ (f : List ℚ). f) (take l.form-index l.forms) ++ map (take l.variables) (drop l.form-index l.forms) ≡ map (take l.variables) l.fn.forms
