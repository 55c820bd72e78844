use Rattle.std.proofs.Common.{◌≤◌, subst, sym, ◌∙◌, ap}
use Rattle.crn_net.specs.Takers.{takers_of}
use Rattle.crn_net.specs.Views.{network_of}
use Rattle.crn_net.proofs.Network.takers.Goals as goal

pub returns : goal.returns
returns c =
    c.at.ensures (network_of c.self.inside.parts).species (takers_of (network_of c.self.inside.parts)) c.self.invariant.table
    (subst (λ v. c.args.species ≤ v.species) (sym c.self.view_is) c.requires.high)
    ∙ ap (λ v. takers_of v c.args.species) c.self.view_is
