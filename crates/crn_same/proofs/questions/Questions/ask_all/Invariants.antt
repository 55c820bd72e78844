use Rattle.std.proofs.Common.{take}
use Rattle.std.specs.Prelude.{All}
use Rattle.crn_same.specs.Answers.{IsNowhere, AreRows}
use Rattle.crn_same.proofs.questions.Questions.ask_all.Given as goal

abbrev pub invariant-loop-index : goal.invariant-loop-index
invariant-loop-index l = record {
  nowhere : All (IsNowhere l.domain) (take l.index l.form);
  rows : AreRows l.self.forms.keys l.self.rows.items;
}
