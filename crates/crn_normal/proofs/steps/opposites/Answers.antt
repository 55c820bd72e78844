use Rattle.std.proofs.Common.{◌≡◌, ◌++◌, [], ◌∷◌, arith}
use Rattle.std.proofs.lemmas.Grind.{common_steps}
use Rattle.crn_normal.proofs.Going.{opposite_step}
use Rattle.crn_normal.proofs.steps.opposites.Goals as goal

pub loop-code-preserved : goal.loop-code-preserved
loop-code-preserved c =
    let new : c.push.new.self.items ≡ c.loop-code.sets.items ++ (c.in_ok-place.place ∷ []) ∷ [] = grind (arith, common_steps) in
    opposite_step c.args.table.now.keys c.loop-code.table.keys _ c.args.set.now c.loop-code.code-index c.loop-code.sets.items c.push.new.self.items c.opposite_at-turned.result c.in_ok-place.place
    c.loop-code-test.true c.requires.within c.loop-code.invariant c.opposite_at-turned.ensures c.in_ok-place.ensures new
