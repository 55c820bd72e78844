use Rattle.std.proofs.Common.{arith}
use Rattle.crn_linear.proofs.Padding.{seen_long}
use Rattle.crn_linear.proofs.Form.coeff.Goals as goal

pub offset_bounds-coeffs-index : goal.offset_bounds-coeffs-index
offset_bounds-coeffs-index c =
    let long = seen_long _ c.self.inside.len c.self.inside.coeffs c.args.self.now c.self.invariant c.self.view_is in
    let few = c.self.invariant.few in
    omega arith
