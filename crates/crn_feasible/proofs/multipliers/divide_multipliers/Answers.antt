use Rattle.std.proofs.Common.{◌∙◌, ◌<◌, ap, map, length, arith}
use Rattle.std.specs.Prelude.{pos}
use Rattle.std.proofs.Math.ListN.{get_or-map}
use Rattle.std.proofs.lemmas.List.{length-map}
use Rattle.std.proofs.lemmas.List.Folds.{list_all_at}
use Rattle.crn_feasible.specs.Elimination.{fits}
use Rattle.crn_feasible.specs.Sparse.{divided}
use Rattle.crn_feasible.proofs.multipliers.divide_multipliers.Goals as goal

pub returns-in_default : goal.returns-in_default
returns-in_default c =
    let ms = c.args.multipliers.now in
    let i = c.loop-multiplier.multiplier-index in
    let f = divided c.args.divisor in
    let within : i < length (map f ms) = omega (arith, c.loop-multiplier-test.true, length-map ms f) in
    list_all_at (λ m. fits m.1) (map f ms) i (f (0, pos 0)) within (ap (λ m. fits m.1) (get_or-map f ms i (0, pos 0)) ∙ c.in_default.ensures)
