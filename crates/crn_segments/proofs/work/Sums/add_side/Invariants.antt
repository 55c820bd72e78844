use Rattle.std.proofs.Common.{length}
use Rattle.crn_net.specs.Views.{parts_of, reaction_of}
use Rattle.crn_segments.proofs.Counts.{IsAhead}
use Rattle.crn_segments.proofs.SideWalk.{SideWalk}
use Rattle.crn_segments.proofs.work.Sums.add_side.Given as goal

abbrev pub invariant-loop-part : goal.invariant-loop-part
invariant-loop-part l = record {
  walk : SideWalk (length l.state) l.parts (parts_of l.seen) (reaction_of l.reaction) l.flux l.state l.fn.self l.self l.part-index;
  seen : IsAhead l.parts l.seen l.seen_from l.part-index;
  gives : IsAhead l.parts l.reaction.gives.items l.gives_from l.part-index;
  takes : IsAhead l.parts l.reaction.takes.items l.takes_from l.part-index;
}
