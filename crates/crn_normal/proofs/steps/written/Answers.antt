use Rattle.std.proofs.Common.{◌≡◌, ◌++◌, [], ◌∷◌, ◌∙◌, ap, map, arith, sym, subst, ℕ, ◌<◌, length}
use Rattle.std.specs.List.{All}
use Rattle.std.proofs.lemmas.Grind.{common_steps}
use Rattle.crn_normal.specs.Codes.{form_at}
use Rattle.crn_normal.proofs.Loops.{codes_at, written_step}
use Rattle.crn_normal.proofs.steps.written.Goals as goal

pub forms_at-requires : goal.forms_at-requires
forms_at-requires c =
    subst (All (λ i. i < length c.args.table.now.keys)) (sym c.numbers.ensures)
    (codes_at c.args.table.now.keys c.args.sets.now c.loop-set.set-index c.set-item.result c.loop-set-test.true c.set-item.is c.requires)

pub loop-set-preserved : goal.loop-set-preserved
loop-set-preserved c =
    let new : c.push.new.self.items ≡ c.loop-set.written.items ++ c.in_ok-forms.forms ∷ [] = grind (arith, common_steps) in
    written_step c.args.table.now.keys c.args.sets.now c.loop-set.set-index c.set-item.result c.loop-set.written.items c.push.new.self.items c.in_ok-forms.forms
    c.loop-set-test.true c.set-item.is new (c.in_ok-forms.ensures ∙ ap (map (form_at c.args.table.now.keys)) c.numbers.ensures) c.loop-set.invariant
