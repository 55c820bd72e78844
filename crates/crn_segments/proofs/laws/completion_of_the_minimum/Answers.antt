use Rattle.crn_segments.proofs.MinimumFits.{completion_fits}
use Rattle.crn_segments.proofs.laws.completion_of_the_minimum.Goals as goal

pub returns : goal.returns
returns c = completion_fits
