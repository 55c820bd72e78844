use Rattle.crn_net.proofs.FeedForward.{feed_forward}
use Rattle.crn_net.proofs.FewReactions.{few_reactions}
use Rattle.crn_net.proofs.laws.lists_feed_forward.Goals as goal

pub returns-clause-network : goal.returns-clause-network
returns-clause-network c = feed_forward

pub returns-clause-few : goal.returns-clause-few
returns-clause-few c = few_reactions
