use Rattle.std.proofs.Common.{refl, ◌∙◌}
use Rattle.crn_job.proofs.States.{nothing_given}
use Rattle.crn_job.proofs.run_tail.RunTail.new.Goals as goal

pub returns : goal.returns
returns c = record {
  species = refl;
  last = refl;
  state = c.in_ok-zero.ensures ∙ nothing_given c.args.species;
  segments = c.new.ensures.items;
}
