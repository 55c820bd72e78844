use Rattle.crn_net.proofs.ReadBack.{reaction_at, reaction_valid}
use Rattle.crn_net.proofs.Network.reaction.Goals as goal

pub returns-clause-value : goal.returns-clause-value
returns-clause-value c =
    reaction_at c.self.inside.parts c.args.self.now c.index.result.now c.args.number c.self.view_is c.requires.low c.requires.high c.index.ensures

pub returns-clause-valid : goal.returns-clause-valid
returns-clause-valid c =
    reaction_valid c.self.inside.parts c.args.self.now c.index.result.now c.args.number c.self.view_is c.self.invariant.valid.network c.requires.low c.requires.high
    (reaction_at c.self.inside.parts c.args.self.now c.index.result.now c.args.number c.self.view_is c.requires.low c.requires.high c.index.ensures)
