use Rattle.std.proofs.Common.{◌≡◌, drop, map}
use Rattle.crn_grammar.specs.Table.{after}
use Rattle.crn_token.specs.Plain.{plain_token}
use Rattle.crn_form_text.specs.Reading.{forms, mark_of}
use Rattle.crn_form_text.specs.Shown.{state_of}
use Rattle.crn_form_text.proofs.form.form_in.Given as goal

abbrev pub invariant-loop-token : goal.invariant-loop-token
invariant-loop-token l =
    after (forms l.variables) (state_of l.reader) (map mark_of (map (plain_token l.bytes) (drop l.token-index l.tokens)))
    ≡ after (forms l.variables) (forms l.variables).start (map mark_of (map (plain_token l.bytes) l.tokens))
