use Rattle.std.proofs.Common.{arith}
use Rattle.crn_linear.proofs.Padding.{seen_long}
use Rattle.crn_linear.proofs.Point.entry.Goals as goal

pub offset_bounds-entries-index : goal.offset_bounds-entries-index
offset_bounds-entries-index c =
    let long = seen_long _ c.self.inside.len c.self.inside.entries c.args.self.now c.self.invariant.padded c.self.view_is in
    let few = c.self.invariant.padded.few in
    omega arith
