use Rattle.crn_net.proofs.MinimumRun.{minimum_is_network, minimum_feeds_forward, completion_is, segments_run, output_is, minimum_computes}
use Rattle.crn_net.proofs.laws.completion_of_the_minimum.Goals as goal

pub returns-clause-valid : goal.returns-clause-valid
returns-clause-valid c = minimum_is_network

pub returns-clause-feed_forward : goal.returns-clause-feed_forward
returns-clause-feed_forward c = minimum_feeds_forward

pub returns-clause-completion : goal.returns-clause-completion
returns-clause-completion c = completion_is

pub returns-clause-run : goal.returns-clause-run
returns-clause-run c = segments_run

pub returns-clause-output : goal.returns-clause-output
returns-clause-output c = output_is

pub returns-clause-computes : goal.returns-clause-computes
returns-clause-computes c = minimum_computes
