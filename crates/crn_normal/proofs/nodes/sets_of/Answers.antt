use Rattle.std.proofs.Common.{Err, ap, ◌∙◌}
use Rattle.std.proofs.lemmas.Result.{err_from_is_err_and}
use Rattle.crn_formula.specs.Views.{plain_of}
use Rattle.crn_normal.specs.Normal.{norm}
use Rattle.crn_normal.specs.Steps.{steps}
use Rattle.crn_normal.proofs.NodeSteps.{written_goes, written_stops}
use Rattle.crn_normal.proofs.nodes.sets_of.Goals as goal

pub returns-in_err-codes : goal.returns-in_err-codes
returns-in_err-codes c =
    let p = err_from_is_err_and c.from_residual.result c.from_residual.ensures.1 in
    written_stops (steps (plain_of c.args.formula.now)) (norm (plain_of c.args.formula.now)) c.from_residual.result _ (p.1 ∙ ap Err p.2) c.in_err-codes.ensures

pub returns : goal.returns
returns c =
    written_goes (steps (plain_of c.args.formula.now)) (norm (plain_of c.args.formula.now)) _ _ c.in_ok-codes.codes.items c.deref.result.now c.in_ok-sets.sets
    c.in_ok-codes.ensures.0 c.in_ok-codes.ensures.1 c.deref.ensures.value c.in_ok-sets.ensures
