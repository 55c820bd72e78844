use Rattle.std.proofs.Common.{nat_lt, [], pos, refl, ◌∙◌, ap, ap₂}
use Rattle.std.specs.Prelude.{◌-ℤ◌}
use Rattle.crn_net.specs.Network.{Reaction, count_of}
use Rattle.crn_net.specs.Views.{parts_of, reaction_of}
use Rattle.crn_segments.specs.Sums.{sum_in, sum_where, gained, is_new}
use Rattle.crn_segments.proofs.Products.{product_is, same_side}
use Rattle.crn_segments.proofs.SideWalk.{both_sides}
use Rattle.crn_segments.proofs.work.Sums.add_flow.Goals as goal

pub returns-clause-sums : goal.returns-clause-sums
returns-clause-sums c =
    let net = c.args.network.now in
    let r : Reaction = reaction_of c.reaction-reaction.result.now in
    λ s.
    let o = sum_in c.args.self.now c.args.state.now s in
    let t = nat_lt 0 (count_of r.takes s) in
    let g = nat_lt 0 (count_of r.gives s) in
    c.add_side-2.ensures.sums s
    ∙ ap₂ (λ ps qs. sum_where (is_new (parts_of ps) (parts_of qs) s) (gained r c.args.flow.flux s) (sum_in c.add_side.new.self c.args.state.now s)) c.deref-2.ensures.value c.deref-3.ensures.value
    ∙ ap (λ x. sum_where (is_new r.gives r.takes s) (gained r c.args.flow.flux s) x)
    (c.add_side.ensures.sums s ∙ ap (λ ps. sum_where (is_new (parts_of ps) [] s) (gained r c.args.flow.flux s) o) c.deref.ensures.value)
    ∙ both_sides t g (gained r c.args.flow.flux s) o
    ∙ ap₂ (λ b p. sum_where b p o) (same_side net r s c.args.flow.reaction c.reaction-reaction.ensures.value)
    (product_is net r s c.args.flow.reaction c.args.flow.flux (pos (count_of r.gives s) -ℤ pos (count_of r.takes s)) c.reaction-reaction.ensures.value refl)
