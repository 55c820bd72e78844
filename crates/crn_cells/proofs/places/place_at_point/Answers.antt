use Rattle.std.proofs.Common.{◌<◌, length, ap, sym, ◌∙◌, subst, arith}
use Rattle.crn_linear.specs.Rows.{Row}
use Rattle.crn_cells.proofs.Rows.{length-above}
use Rattle.crn_cells.proofs.places.place_at_point.Goals as goal

pub sign_at-requires : goal.sign_at-requires
sign_at-requires c =
    let F = c.args.differences.now in
    let low : c.index.result.now < length F =
    subst (λ i. i < length F) (sym c.index.ensures) (c.requires.within c.loop-place.place c.index.result.now (omega (arith, c.loop-place-test.true, c.len-next.ensures))) in
    ap (λ (r : Row). length r.entries) c.row-step.ensures
    ∙ length-above F (length c.args.cell.now.point) c.index.result.now c.len-next.result c.requires.long low (omega (arith, c.requires.next, c.len-next.ensures))
