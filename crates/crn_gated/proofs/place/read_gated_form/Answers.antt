use Rattle.std.proofs.Common.{◌∙◌, ap, drop}
use Rattle.crn_token.specs.Plain.{plain_token}
use Rattle.crn_gated.proofs.GateText.{some_read}
use Rattle.crn_gated.proofs.place.read_gated_form.Goals as goal

pub returns-in-Some : goal.returns-in-Some
returns-in-Some c =
    c.with_gate.ensures
    ∙ some_read c.args.variables (plain_token c.args.bytes.now) c.args.line.now.tokens.items c.after.result.now c.in-Some.found.0 c.in-Some.found.1 c.in-Some.ensures.value
    (c.after.ensures ∙ ap (drop c.in-Some.found.1) c.deref.ensures.value)
