use Rattle.std.proofs.Common.{Err, [], ◌∷◌, ap, ◌∙◌}
use Rattle.std.proofs.lemmas.Result.{err_from_is_err_and}
use Rattle.crn_normal.specs.Normal.{neg}
use Rattle.crn_normal.specs.Steps.{sum_step, neg_steps}
use Rattle.crn_normal.specs.Codes.{sets_at}
use Rattle.crn_normal.proofs.NodeSteps.{goes_first, difference_goes}
use Rattle.crn_normal.proofs.nodes.coded_difference.Goals as goal

pub returns-in_err-turned : goal.returns-in_err-turned
returns-in_err-turned c =
    let p = err_from_is_err_and c.from_residual.result c.from_residual.ensures.1 in
    goes_first (neg_steps (sets_at c.args.table.now.keys c.args.second.now)) (sum_step (sets_at c.args.table.now.keys c.args.first.now) (neg (sets_at c.args.table.now.keys c.args.second.now)) ∷ []) _ _ _ c.from_residual.result _ (p.1 ∙ ap Err p.2) c.in_err-turned.ensures

pub returns : goal.returns
returns c =
    difference_goes c.args.table.now.keys c.neg.new.table.keys c.sum.new.table.keys c.args.first.now c.args.second.now c.in_ok-turned.turned.items c.deref.result.now c.sum.result
    c.in_ok-turned.ensures.0 c.requires.first c.in_ok-turned.ensures.1 c.deref.ensures.value c.sum.ensures
