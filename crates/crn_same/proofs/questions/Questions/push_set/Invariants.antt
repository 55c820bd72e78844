use Rattle.std.proofs.Common.{◌≡◌, ◌++◌, take, map}
use Rattle.std.specs.Prelude.{All}
use Rattle.crn_farkas.specs.Rooms.{kept}
use Rattle.crn_pieces.specs.Answers.{Clears}
use Rattle.crn_same.specs.Equal.{positive_row}
use Rattle.crn_same.specs.Answers.{AreRows}
use Rattle.crn_same.proofs.questions.Questions.push_set.Given as goal

abbrev pub invariant-loop-form : goal.invariant-loop-form
invariant-loop-form l = record {
  pushed : l.system ≡ kept l.initial.system.system.columns l.initial.system.room (l.initial.system.system.rows ++ map positive_row (take l.form-index l.set));
  clear : All Clears (take l.form-index l.set);
  rows : AreRows l.self.forms.keys l.self.rows.items;
}
