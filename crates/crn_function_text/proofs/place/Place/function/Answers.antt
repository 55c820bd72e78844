use Rattle.std.proofs.Common.{subst}
use Rattle.crn_function_text.specs.Reading.{IsKept, shown}
use Rattle.crn_function_text.proofs.Narrowing.{forms_fit}
use Rattle.crn_function_text.proofs.place.Place.function.Goals as goal

pub of-requires-in-InForms : goal.of-requires-in-InForms
of-requires-in-InForms c =
    let kept = subst (λ place. IsKept (shown place)) c.in-InForms.is c.requires in
    forms_fit c.in-InForms.variables c.in-InForms.forms.items kept.0 kept.1 kept.2
