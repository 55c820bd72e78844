use Rattle.std.proofs.Common.{◌≡◌, ◌≤◌, drop, length, map, IfSome}
use Rattle.crn_token.specs.Plain.{plain_token}
use Rattle.crn_form_text.specs.Reading.{plain_forms, longest_from, plain_form_at, mark_of}
use Rattle.crn_form_text.specs.Shown.{state_of}
use Rattle.crn_form_text.proofs.form.plain_form_at.Given as goal

abbrev pub invariant-loop-i : goal.invariant-loop-i
invariant-loop-i l = record {
  found : longest_from (plain_forms l.variables) l.i l.found (state_of l.reader) (map mark_of (map (plain_token l.bytes) (drop l.i l.tokens))) ≡ plain_form_at l.variables (map (plain_token l.bytes) l.tokens);
  within : IfSome l.found (λ p. p.1 ≤ length l.tokens);
}
