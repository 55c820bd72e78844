use Rattle.std.proofs.Common.{◌≡◌, [], ◌∷◌, sym, subst, arith}
use Rattle.std.proofs.lemmas.Grind.{common_steps}
use Rattle.crn_normal.specs.Codes.{AreSetsAdded}
use Rattle.crn_normal.proofs.Coding.{alone_added}
use Rattle.crn_normal.proofs.nodes.alone.Goals as goal

pub returns : goal.returns
returns c =
    let only : c.push.new.self.items ≡ (c.in_ok-place.place ∷ []) ∷ [] = grind (arith, common_steps) in
    subst (AreSetsAdded c.args.table.now.keys _ _) (sym only) (alone_added c.args.table.now.keys _ c.args.form c.in_ok-place.place c.requires c.in_ok-place.ensures)
