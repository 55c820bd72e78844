use Rattle.std.proofs.Common.{◌≡◌, ◌*◌, ◌≤◌, drop, map}
use Rattle.crn_grammar.specs.Table.{after}
use Rattle.crn_token.specs.Plain.{plain_token}
use Rattle.crn_form_text.specs.Reading.{walks, mark_of}
use Rattle.crn_form_text.specs.Shown.{walk_of}
use Rattle.crn_form_text.proofs.formula.walk_over.Given as goal

abbrev pub invariant-loop-token : goal.invariant-loop-token
invariant-loop-token l = record {
  walked : after (walks l.variables) (walk_of l.walk) (map mark_of (map (plain_token l.bytes) (drop l.token-index l.tokens)))
      ≡ after (walks l.variables) (walks l.variables).start (map mark_of (map (plain_token l.bytes) l.tokens));
  few : l.walk.nodes ≤ 2 * l.token-index;
}
