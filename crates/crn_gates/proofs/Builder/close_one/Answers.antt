use Rattle.std.proofs.Common.{rules, subst}
use Rattle.crn_net.specs.Network.{IsEnds}
use Rattle.crn_gates.proofs.Drafting.{rail_ends}
use Rattle.crn_gates.proofs.Builder.close_one.Goals as goal

pub with_output-requires : goal.with_output-requires
with_output-requires c =
    subst (IsEnds c.args.self.rails c.args.self.built.species) (search rules) (rail_ends c.args.self.rails c.args.self.built c.args.output c.requires.direct c.requires.free)
