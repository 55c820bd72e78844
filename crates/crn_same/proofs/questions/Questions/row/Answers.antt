use Rattle.std.proofs.Common.{◌≡◌, ◌∙◌, ◌++◌, [], ◌∷◌, ap, arith}
use Rattle.std.proofs.lemmas.Grind.{common_steps}
use Rattle.crn_same.proofs.Rows.{one_more, row_there, clears_there}
use Rattle.crn_same.proofs.questions.Questions.row.Goals as goal

pub returns-then-is_new-clause-rows : goal.returns-then-is_new-clause-rows
returns-then-is_new-clause-rows c =
    let more : c.push.new.self.items ≡ c.args.self.now.rows.items ++ c.in_ok-row.row ∷ [] = grind (arith, common_steps) in
    one_more c.args.self.now.forms.keys c.args.form.now c.insert_full.new.self.keys c.in_ok-place.ensures.keys c.in_ok-place.is_new c.in_ok-place.ensures.added c.args.self.now.rows.items c.requires c.if-is_new.true c.in_ok-row.ensures.0
    c.push.new.self.items (more ∙ ap (λ r. c.args.self.now.rows.items ++ r ∷ []) c.in_ok-row.ensures.1)

pub returns-clause-row : goal.returns-clause-row
returns-clause-row c =
    let s = c.in_ok-place.ensures.stored in
    c.index.ensures
    ∙ row_there c.args.self.now.forms.keys c.args.form.now c.insert_full.new.self.keys c.in_ok-place.ensures.keys c.in_ok-place.is_new c.in_ok-place.ensures.added c.args.self.now.rows.items c.requires c.if-is_new.false
    c.in_ok-place.place c.in_ok-place.ensures.within s.0 s.1 s.2 _

pub returns-clause-clears : goal.returns-clause-clears
returns-clause-clears c =
    let s = c.in_ok-place.ensures.stored in
    clears_there c.args.self.now.forms.keys c.args.form.now c.insert_full.new.self.keys c.in_ok-place.ensures.keys c.in_ok-place.is_new c.in_ok-place.ensures.added c.args.self.now.rows.items c.requires c.if-is_new.false
    c.in_ok-place.place c.in_ok-place.ensures.within s.0 s.1 s.2
