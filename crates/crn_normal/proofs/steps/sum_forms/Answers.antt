use Rattle.std.proofs.Common.{Err, [], ◌∷◌, ap, refl, ◌∙◌}
use Rattle.std.proofs.lemmas.Result.{err_from_is_err_and}
use Rattle.crn_normal.specs.Sets.{paired}
use Rattle.crn_normal.specs.Normal.{sum_of}
use Rattle.crn_normal.specs.Steps.{sum_step}
use Rattle.crn_normal.specs.Codes.{lists_of, sum_codes}
use Rattle.crn_normal.proofs.Going.{step_stops, step_goes, goes_on}
use Rattle.crn_normal.proofs.NodeSteps.{goes_err}
use Rattle.crn_normal.proofs.SumSteps.{sum_stops, rows_again, fit_again, sums_ready, sums_fit, read_within, read_rows_within}
use Rattle.crn_normal.proofs.steps.sum_forms.Goals as goal

pub returns-in_err-rows : goal.returns-in_err-rows
returns-in_err-rows c =
    let p = err_from_is_err_and c.from_residual-in_err-rows.result c.from_residual-in_err-rows.ensures.1 in
    goes_err (sum_step (lists_of c.args.a.now) (lists_of c.args.b.now) ∷ []) _ _ _ c.from_residual-in_err-rows.result _ (p.1 ∙ ap Err p.2)
    (sum_stops c.new-forms.result.keys c.new-others.result.keys c.coded.new.table.keys c.coded-2.new.table.keys (lists_of c.args.a.now) (lists_of c.args.b.now) c.in_ok-first.first.items c.in_ok-second.second.items
    c.new-forms.ensures.len c.new-others.ensures.len c.in_ok-first.ensures c.in_ok-second.ensures _ c.as_slice.result.now c.as_slice-2.result.now _ _
    c.as_slice.ensures.keys c.as_slice-2.ensures.keys c.in_err-rows.ensures)

pub kept_sums-requires-clause-first : goal.kept_sums-requires-clause-first
kept_sums-requires-clause-first c =
    read_within c.new-forms.result.keys c.new-others.result.keys c.args.table.now.keys c.coded.new.table.keys c.coded-2.new.table.keys c.sum_rows.new.sums.keys
    (lists_of c.args.a.now) (lists_of c.args.b.now) c.in_ok-first.first.items c.in_ok-second.second.items (lists_of c.deref.result.now) c.in_ok-first.ensures c.in_ok-second.ensures
    (rows_again c.args.table.now.keys c.coded.new.table.keys c.coded-2.new.table.keys c.sum_rows.new.sums.keys c.as_slice.result.now c.as_slice-2.result.now c.in_ok-rows.rows.items c.deref.result.now
    c.as_slice.ensures.keys c.as_slice-2.ensures.keys c.deref.ensures.value c.in_ok-rows.ensures.1)
    c.deref-2.result.now c.deref.result.now c.deref-2.ensures.value refl

pub kept_sums-requires-clause-second : goal.kept_sums-requires-clause-second
kept_sums-requires-clause-second c =
    read_rows_within c.new-forms.result.keys c.new-others.result.keys c.args.table.now.keys c.coded.new.table.keys c.coded-2.new.table.keys c.sum_rows.new.sums.keys
    (lists_of c.args.a.now) (lists_of c.args.b.now) c.in_ok-first.first.items c.in_ok-second.second.items (lists_of c.deref.result.now) c.in_ok-first.ensures c.in_ok-second.ensures
    (rows_again c.args.table.now.keys c.coded.new.table.keys c.coded-2.new.table.keys c.sum_rows.new.sums.keys c.as_slice.result.now c.as_slice-2.result.now c.in_ok-rows.rows.items c.deref.result.now
    c.as_slice.ensures.keys c.as_slice-2.ensures.keys c.deref.ensures.value c.in_ok-rows.ensures.1)
    c.deref-3.result.now c.deref-3.ensures.value

pub returns-in_err-kept : goal.returns-in_err-kept
returns-in_err-kept c =
    let p = err_from_is_err_and c.from_residual-in_err-kept.result c.from_residual-in_err-kept.ensures.1 in
    goes_err (sum_step (lists_of c.args.a.now) (lists_of c.args.b.now) ∷ []) _ _ _ c.from_residual-in_err-kept.result _ (p.1 ∙ ap Err p.2)
    (step_stops c.sum_rows.new.sums.keys (paired (sum_codes (lists_of c.deref.result.now))) (sum_step (lists_of c.args.a.now) (lists_of c.args.b.now)) c.in_ok-first.first.items c.in_ok-second.second.items c.in_ok-rows.ensures.1.table
    (sums_ready c.new-forms.result.keys c.new-others.result.keys c.args.table.now.keys c.coded.new.table.keys c.coded-2.new.table.keys c.sum_rows.new.sums.keys
    (lists_of c.args.a.now) (lists_of c.args.b.now) c.in_ok-first.first.items c.in_ok-second.second.items (lists_of c.deref.result.now) c.in_ok-first.ensures c.in_ok-second.ensures
    (rows_again c.args.table.now.keys c.coded.new.table.keys c.coded-2.new.table.keys c.sum_rows.new.sums.keys c.as_slice.result.now c.as_slice-2.result.now c.in_ok-rows.rows.items c.deref.result.now
    c.as_slice.ensures.keys c.as_slice-2.ensures.keys c.deref.ensures.value c.in_ok-rows.ensures.1))
    (sums_fit c.new-forms.result.keys c.new-others.result.keys c.coded.new.table.keys c.coded-2.new.table.keys (lists_of c.args.a.now) (lists_of c.args.b.now) c.in_ok-first.first.items c.in_ok-second.second.items
    c.new-forms.ensures.len c.new-others.ensures.len c.in_ok-first.ensures c.in_ok-second.ensures
    (fit_again c.coded.new.table.keys c.coded-2.new.table.keys c.as_slice.result.now c.as_slice-2.result.now c.as_slice.ensures.keys c.as_slice-2.ensures.keys c.in_ok-rows.ensures.0)) _ _ c.deref-2.ensures.value c.deref-3.ensures.value
    _ c.in_err-kept.ensures)

pub returns : goal.returns
returns c =
    goes_on (sum_step (lists_of c.args.a.now) (lists_of c.args.b.now) ∷ []) (sum_of (lists_of c.args.a.now) (lists_of c.args.b.now)) c.args.table.now.keys c.sum_rows.new.sums.keys c.sum_rows.new.sums.keys c.finished.result c.in_ok-rows.ensures.1.grows
    (step_goes c.sum_rows.new.sums.keys (paired (sum_codes (lists_of c.deref.result.now))) (sum_step (lists_of c.args.a.now) (lists_of c.args.b.now)) c.in_ok-first.first.items c.in_ok-second.second.items c.in_ok-rows.ensures.1.table
    (sums_ready c.new-forms.result.keys c.new-others.result.keys c.args.table.now.keys c.coded.new.table.keys c.coded-2.new.table.keys c.sum_rows.new.sums.keys
    (lists_of c.args.a.now) (lists_of c.args.b.now) c.in_ok-first.first.items c.in_ok-second.second.items (lists_of c.deref.result.now) c.in_ok-first.ensures c.in_ok-second.ensures
    (rows_again c.args.table.now.keys c.coded.new.table.keys c.coded-2.new.table.keys c.sum_rows.new.sums.keys c.as_slice.result.now c.as_slice-2.result.now c.in_ok-rows.rows.items c.deref.result.now
    c.as_slice.ensures.keys c.as_slice-2.ensures.keys c.deref.ensures.value c.in_ok-rows.ensures.1))
    (sums_fit c.new-forms.result.keys c.new-others.result.keys c.coded.new.table.keys c.coded-2.new.table.keys (lists_of c.args.a.now) (lists_of c.args.b.now) c.in_ok-first.first.items c.in_ok-second.second.items
    c.new-forms.ensures.len c.new-others.ensures.len c.in_ok-first.ensures c.in_ok-second.ensures
    (fit_again c.coded.new.table.keys c.coded-2.new.table.keys c.as_slice.result.now c.as_slice-2.result.now c.as_slice.ensures.keys c.as_slice-2.ensures.keys c.in_ok-rows.ensures.0)) _ _ c.deref-2.ensures.value c.deref-3.ensures.value
    c.in_ok-kept.kept.sets.items c.in_ok-kept.ensures.0 c.in_ok-kept.ensures.1 c.finished.result c.finished.ensures)
