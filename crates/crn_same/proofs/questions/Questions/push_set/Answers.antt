use Rattle.std.proofs.Common.{length, ap, ◌∙◌, sym, ◌++◌, map, take}
use Rattle.crn_linear.specs.Rows.{Row}
use Rattle.crn_farkas.specs.Rooms.{WithRoom, with_row, kept}
use Rattle.crn_same.specs.Equal.{positive_row}
use Rattle.crn_same.proofs.Rows.{row_long, clear_next, push_next}
use Rattle.crn_same.proofs.questions.Questions.push_set.Goals as goal

pub push-requires-clause-length : goal.push-requires-clause-length
push-requires-clause-length c =
    ap (λ r. length r.entries) c.in_ok-row.ensures.row
    ∙ row_long c.args.set.now c.loop-form.form-index c.form-item.result c.loop-form-test.true c.form-item.is c.args.system.now.system.columns c.requires.columns
    ∙ ap (λ s. s.system.columns) (sym c.loop-form.invariant.pushed)

pub loop-form-preserved : goal.loop-form-preserved
loop-form-preserved c =
    let s = c.args.system.now in
    let set = c.args.set.now in
    let n = c.loop-form.form-index in
    record {
      pushed =
          c.push.ensures
          ∙ ap (λ (t : WithRoom). with_row t c.in_ok-row.row) c.loop-form.invariant.pushed
          ∙ ap (λ (r : Row). with_row (kept s.system.columns s.room (s.system.rows ++ map positive_row (take n set))) r) c.in_ok-row.ensures.row
          ∙ ap (kept s.system.columns s.room) (push_next set n c.form-item.result c.loop-form-test.true c.form-item.is s.system.rows);
      clear = clear_next set n c.form-item.result c.loop-form-test.true c.form-item.is c.loop-form.invariant.clear c.in_ok-row.ensures.clears;
      rows = c.in_ok-row.ensures.rows;
    }
