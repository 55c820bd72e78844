use Rattle.std.proofs.Common.{Ok, Err, [], ◌∷◌, ◌++◌, sym, ap, ap₂, ◌∙◌}
use Rattle.std.proofs.lemmas.Result.{err_from_is_err_and}
use Rattle.crn_formula.specs.Formulas as plain
use Rattle.crn_formula.specs.Views.{plain_of}
use Rattle.crn_formula.proofs.Numbers.{is_zero_same}
use Rattle.crn_normal.specs.Normal.{neg, sum_of, meet, reduced, nonzero_multiple, norm}
use Rattle.crn_normal.specs.Steps.{sum_step, meet_step, join_step, difference_steps, multiple_steps, steps}
use Rattle.crn_normal.proofs.NodeSteps.{at_formula, refused_first, refused_second, operands_go, meet_goes, join_goes, goes_first, coded_goes, scale_zero, scale_other}
use Rattle.crn_normal.proofs.nodes.+codes_of.Goals as goal

pub returns-in_err-first-in-Add : goal.returns-in_err-first-in-Add
returns-in_err-first-in-Add t c =
    let r = c.from_residual-in_err-first-in-Add.result in
    let p = err_from_is_err_and r c.from_residual-in_err-first-in-Add.ensures.1 in
    let x = plain_of c.deref-in-Add.result.now in
    let y = plain_of c.in-Add.b.value in
    at_formula _ _ _ _ r (sym (ap plain_of c.in-Add.is ∙ ap (λ a. plain.Add a y) (ap plain_of (sym c.deref-in-Add.ensures))))
    (refused_first (steps x) (steps y) (sum_step (norm x) (norm y) ∷ []) (sum_of (norm x) (norm y)) _ _ r _ (p.1 ∙ ap Err p.2) c.in_err-first-in-Add.ensures)

pub returns-in_err-second-in-Add : goal.returns-in_err-second-in-Add
returns-in_err-second-in-Add t c =
    let r = c.from_residual-in_err-second-in-Add.result in
    let p = err_from_is_err_and r c.from_residual-in_err-second-in-Add.ensures.1 in
    let x = plain_of c.deref-in-Add.result.now in
    let y = plain_of c.deref-in-Add-2.result.now in
    at_formula _ _ _ _ r (sym (ap plain_of c.in-Add.is ∙ ap₂ plain.Add (ap plain_of (sym c.deref-in-Add.ensures)) (ap plain_of (sym c.deref-in-Add-2.ensures))))
    (refused_second (steps x) (steps y) (sum_step (norm x) (norm y) ∷ []) (sum_of (norm x) (norm y)) _ _ r _ (p.1 ∙ ap Err p.2) c.in_ok-first-in-Add.ensures.0 c.in_err-second-in-Add.ensures)

pub returns-in_ok-second-in-Add : goal.returns-in_ok-second-in-Add
returns-in_ok-second-in-Add t c =
    let x = plain_of c.deref-in-Add.result.now in
    let y = plain_of c.deref-in-Add-2.result.now in
    at_formula _ _ _ _ c.sum.result (sym (ap plain_of c.in-Add.is ∙ ap₂ plain.Add (ap plain_of (sym c.deref-in-Add.ensures)) (ap plain_of (sym c.deref-in-Add-2.ensures))))
    (operands_go (steps x) (steps y) (norm x) (norm y) _ _ _ c.in_ok-first-in-Add.first.items c.in_ok-second-in-Add.second.items c.deref-in-Add-3.result.now c.deref-in-Add-4.result.now
    c.in_ok-first-in-Add.ensures.0 c.in_ok-second-in-Add.ensures.0 c.in_ok-first-in-Add.ensures.1 c.in_ok-second-in-Add.ensures.1 c.deref-in-Add-3.ensures.value c.deref-in-Add-4.ensures.value
    (λ A B. sum_step A B ∷ []) sum_of _ c.sum.result c.sum.ensures)

pub returns-in_err-first-in-Sub : goal.returns-in_err-first-in-Sub
returns-in_err-first-in-Sub t c =
    let r = c.from_residual-in_err-first-in-Sub.result in
    let p = err_from_is_err_and r c.from_residual-in_err-first-in-Sub.ensures.1 in
    let x = plain_of c.deref-in-Sub.result.now in
    let y = plain_of c.in-Sub.b.value in
    at_formula _ _ _ _ r (sym (ap plain_of c.in-Sub.is ∙ ap (λ a. plain.Sub a y) (ap plain_of (sym c.deref-in-Sub.ensures))))
    (refused_first (steps x) (steps y) (difference_steps (norm x) (norm y)) (sum_of (norm x) (neg (norm y))) _ _ r _ (p.1 ∙ ap Err p.2) c.in_err-first-in-Sub.ensures)

pub returns-in_err-second-in-Sub : goal.returns-in_err-second-in-Sub
returns-in_err-second-in-Sub t c =
    let r = c.from_residual-in_err-second-in-Sub.result in
    let p = err_from_is_err_and r c.from_residual-in_err-second-in-Sub.ensures.1 in
    let x = plain_of c.deref-in-Sub.result.now in
    let y = plain_of c.deref-in-Sub-2.result.now in
    at_formula _ _ _ _ r (sym (ap plain_of c.in-Sub.is ∙ ap₂ plain.Sub (ap plain_of (sym c.deref-in-Sub.ensures)) (ap plain_of (sym c.deref-in-Sub-2.ensures))))
    (refused_second (steps x) (steps y) (difference_steps (norm x) (norm y)) (sum_of (norm x) (neg (norm y))) _ _ r _ (p.1 ∙ ap Err p.2) c.in_ok-first-in-Sub.ensures.0 c.in_err-second-in-Sub.ensures)

pub returns-in_ok-second-in-Sub : goal.returns-in_ok-second-in-Sub
returns-in_ok-second-in-Sub t c =
    let x = plain_of c.deref-in-Sub.result.now in
    let y = plain_of c.deref-in-Sub-2.result.now in
    at_formula _ _ _ _ c.coded_difference.result (sym (ap plain_of c.in-Sub.is ∙ ap₂ plain.Sub (ap plain_of (sym c.deref-in-Sub.ensures)) (ap plain_of (sym c.deref-in-Sub-2.ensures))))
    (operands_go (steps x) (steps y) (norm x) (norm y) _ _ _ c.in_ok-first-in-Sub.first.items c.in_ok-second-in-Sub.second.items c.deref-in-Sub-3.result.now c.deref-in-Sub-4.result.now
    c.in_ok-first-in-Sub.ensures.0 c.in_ok-second-in-Sub.ensures.0 c.in_ok-first-in-Sub.ensures.1 c.in_ok-second-in-Sub.ensures.1 c.deref-in-Sub-3.ensures.value c.deref-in-Sub-4.ensures.value
    difference_steps (λ A B. sum_of A (neg B)) _ c.coded_difference.result c.coded_difference.ensures)

pub returns-in_err-first-in-Min : goal.returns-in_err-first-in-Min
returns-in_err-first-in-Min t c =
    let r = c.from_residual-in_err-first-in-Min.result in
    let p = err_from_is_err_and r c.from_residual-in_err-first-in-Min.ensures.1 in
    let x = plain_of c.deref-in-Min.result.now in
    let y = plain_of c.in-Min.b.value in
    at_formula _ _ _ _ r (sym (ap plain_of c.in-Min.is ∙ ap (λ a. plain.Min a y) (ap plain_of (sym c.deref-in-Min.ensures))))
    (refused_first (steps x) (steps y) (meet_step (norm x) (norm y) ∷ []) (meet (norm x) (norm y)) _ _ r _ (p.1 ∙ ap Err p.2) c.in_err-first-in-Min.ensures)

pub returns-in_err-second-in-Min : goal.returns-in_err-second-in-Min
returns-in_err-second-in-Min t c =
    let r = c.from_residual-in_err-second-in-Min.result in
    let p = err_from_is_err_and r c.from_residual-in_err-second-in-Min.ensures.1 in
    let x = plain_of c.deref-in-Min.result.now in
    let y = plain_of c.deref-in-Min-2.result.now in
    at_formula _ _ _ _ r (sym (ap plain_of c.in-Min.is ∙ ap₂ plain.Min (ap plain_of (sym c.deref-in-Min.ensures)) (ap plain_of (sym c.deref-in-Min-2.ensures))))
    (refused_second (steps x) (steps y) (meet_step (norm x) (norm y) ∷ []) (meet (norm x) (norm y)) _ _ r _ (p.1 ∙ ap Err p.2) c.in_ok-first-in-Min.ensures.0 c.in_err-second-in-Min.ensures)

pub returns-in_ok-second-in-Min : goal.returns-in_ok-second-in-Min
returns-in_ok-second-in-Min t c =
    let x = plain_of c.deref-in-Min.result.now in
    let y = plain_of c.deref-in-Min-2.result.now in
    at_formula _ _ _ _ c.meet.result (sym (ap plain_of c.in-Min.is ∙ ap₂ plain.Min (ap plain_of (sym c.deref-in-Min.ensures)) (ap plain_of (sym c.deref-in-Min-2.ensures))))
    (meet_goes (steps x) (steps y) (norm x) (norm y) _ _ _ c.in_ok-first-in-Min.first.items c.in_ok-second-in-Min.second.items c.deref-in-Min-3.result.now c.deref-in-Min-4.result.now
    c.in_ok-first-in-Min.ensures.0 c.in_ok-second-in-Min.ensures.0 c.in_ok-first-in-Min.ensures.1 c.in_ok-second-in-Min.ensures.1 c.deref-in-Min-3.ensures.value c.deref-in-Min-4.ensures.value
    c.meet.result c.meet.ensures)

pub returns-in_err-first-in-Max : goal.returns-in_err-first-in-Max
returns-in_err-first-in-Max t c =
    let r = c.from_residual-in_err-first-in-Max.result in
    let p = err_from_is_err_and r c.from_residual-in_err-first-in-Max.ensures.1 in
    let x = plain_of c.deref-in-Max.result.now in
    let y = plain_of c.in-Max.b.value in
    at_formula _ _ _ _ r (sym (ap plain_of c.in-Max.is ∙ ap (λ a. plain.Max a y) (ap plain_of (sym c.deref-in-Max.ensures))))
    (refused_first (steps x) (steps y) (join_step (norm x) (norm y) ∷ []) (reduced (norm x ++ norm y)) _ _ r _ (p.1 ∙ ap Err p.2) c.in_err-first-in-Max.ensures)

pub returns-in_err-second-in-Max : goal.returns-in_err-second-in-Max
returns-in_err-second-in-Max t c =
    let r = c.from_residual-in_err-second-in-Max.result in
    let p = err_from_is_err_and r c.from_residual-in_err-second-in-Max.ensures.1 in
    let x = plain_of c.deref-in-Max.result.now in
    let y = plain_of c.deref-in-Max-2.result.now in
    at_formula _ _ _ _ r (sym (ap plain_of c.in-Max.is ∙ ap₂ plain.Max (ap plain_of (sym c.deref-in-Max.ensures)) (ap plain_of (sym c.deref-in-Max-2.ensures))))
    (refused_second (steps x) (steps y) (join_step (norm x) (norm y) ∷ []) (reduced (norm x ++ norm y)) _ _ r _ (p.1 ∙ ap Err p.2) c.in_ok-first-in-Max.ensures.0 c.in_err-second-in-Max.ensures)

pub returns-in_ok-second-in-Max : goal.returns-in_ok-second-in-Max
returns-in_ok-second-in-Max t c =
    let x = plain_of c.deref-in-Max.result.now in
    let y = plain_of c.deref-in-Max-2.result.now in
    at_formula _ _ _ _ c.join.result (sym (ap plain_of c.in-Max.is ∙ ap₂ plain.Max (ap plain_of (sym c.deref-in-Max.ensures)) (ap plain_of (sym c.deref-in-Max-2.ensures))))
    (join_goes (steps x) (steps y) (norm x) (norm y) _ _ _ c.in_ok-first-in-Max.first.items c.in_ok-second-in-Max.second.items c.deref-in-Max-3.result.now c.deref-in-Max-4.result.now
    c.in_ok-first-in-Max.ensures.0 c.in_ok-second-in-Max.ensures.0 c.in_ok-first-in-Max.ensures.1 c.in_ok-second-in-Max.ensures.1 c.deref-in-Max-3.ensures.value c.deref-in-Max-4.ensures.value
    c.join.result c.join.ensures)

pub returns-then-is_zero : goal.returns-then-is_zero
returns-then-is_zero t c =
    let q = c.in-Scale.factor in
    at_formula _ _ _ _ (Ok c.in_ok-sets-in-Scale.sets) (sym (ap plain_of c.in-Scale.is ∙ ap (plain.Scale q) (ap plain_of (sym c.deref.ensures))))
    (scale_zero q (plain_of c.deref.result.now) c.zero_form.result _ _ c.in_ok-sets-in-Scale.sets (sym (is_zero_same c.is_zero.result q c.is_zero.ensures) ∙ c.if-is_zero.true)
    c.zero_form.ensures c.in_ok-sets-in-Scale.ensures)

pub returns-in_err-sets-in-Scale-2 : goal.returns-in_err-sets-in-Scale-2
returns-in_err-sets-in-Scale-2 t c =
    let q = c.in-Scale.factor in
    let r = c.from_residual-in_err-sets-in-Scale-2.result in
    let p = err_from_is_err_and r c.from_residual-in_err-sets-in-Scale-2.ensures.1 in
    let a = plain_of c.deref-in-Scale.result.now in
    at_formula _ _ _ _ r (sym (ap plain_of c.in-Scale.is ∙ ap (plain.Scale q) (ap plain_of (sym c.deref-in-Scale.ensures))))
    (scale_other q a _ _ r (sym (is_zero_same c.is_zero.result q c.is_zero.ensures) ∙ c.if-is_zero.false)
    (goes_first (steps a) (multiple_steps q (norm a)) _ _ _ r _ (p.1 ∙ ap Err p.2) c.in_err-sets-in-Scale-2.ensures))

pub returns-in_ok-sets-in-Scale-2 : goal.returns-in_ok-sets-in-Scale-2
returns-in_ok-sets-in-Scale-2 t c =
    let q = c.in-Scale.factor in
    let a = plain_of c.deref-in-Scale.result.now in
    at_formula _ _ _ _ c.multiple.result (sym (ap plain_of c.in-Scale.is ∙ ap (plain.Scale q) (ap plain_of (sym c.deref-in-Scale.ensures))))
    (scale_other q a _ _ c.multiple.result (sym (is_zero_same c.is_zero.result q c.is_zero.ensures) ∙ c.if-is_zero.false)
    (coded_goes (multiple_steps q) (nonzero_multiple q) (steps a) (norm a) _ _ _ c.in_ok-sets-in-Scale-2.sets.items c.deref-in-Scale-2.result.now c.multiple.result c.in_ok-sets-in-Scale-2.ensures.0
    c.in_ok-sets-in-Scale-2.ensures.1 c.deref-in-Scale-2.ensures.value c.multiple.ensures))
