use Rattle.std.proofs.Common.{rules, subst}
use Rattle.crn_net.specs.Network.{IsEnds}
use Rattle.crn_gates.proofs.Drafting.{pair_ends}
use Rattle.crn_gates.proofs.Builder.close.Goals as goal

pub with_output-requires : goal.with_output-requires
with_output-requires c =
    subst (IsEnds c.args.self.rails c.args.self.built.species) (search rules)
    (pair_ends c.args.self.rails c.args.self.built c.args.output.plus c.args.output.minus c.requires.dual c.requires.free)
