use Rattle.std.proofs.Common.{rules, subst}
use Rattle.crn_net.specs.Limits.{IsValid}
use Rattle.crn_net.specs.Network.{IsFeedForward}
use Rattle.crn_gates.specs.Drafts.{IsDraft}
use Rattle.crn_gates.proofs.Drafting.{draft_valid, closes_forward}
use Rattle.crn_gates.proofs.Builder.with_output.Goals as goal

pub want_of_memory-requires : goal.want_of_memory-requires
want_of_memory-requires c =
    c.in-Err.ensures.valid (subst IsValid (search rules) (draft_valid c.args.self c.args.output (subst IsDraft c.self.view_is c.self.invariant.1) c.requires))

pub returns-in-Ok-clause-feed_forward : goal.returns-in-Ok-clause-feed_forward
returns-in-Ok-clause-feed_forward c = subst IsFeedForward (search rules) (closes_forward c.args.self c.args.output (subst IsDraft c.self.view_is c.self.invariant.1))
