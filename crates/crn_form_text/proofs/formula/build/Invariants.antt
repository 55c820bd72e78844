use Rattle.std.proofs.Common.{◌≡◌, [], drop, map}
use Rattle.std.specs.Prelude.{reverse}
use Rattle.crn_grammar.specs.Table.{after}
use Rattle.crn_formula.specs.Views.{plain_of}
use Rattle.crn_form_text.specs.Built.{builds}
use Rattle.crn_form_text.proofs.formula.build.Given as goal

abbrev pub invariant-loop-item : goal.invariant-loop-item
invariant-loop-item l = after (builds l.columns) (map plain_of (reverse l.built.items)) (drop l.item-index l.items) ≡ after (builds l.columns) [] l.items
