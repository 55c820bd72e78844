use Rattle.crn_direct.proofs.LayoutLaws.{layout_is_network, layout_feeds_forward}
use Rattle.crn_direct.proofs.laws.layouts_feed_forward.Goals as goal

pub returns-clause-network : goal.returns-clause-network
returns-clause-network c = layout_is_network

pub returns-clause-feed_forward : goal.returns-clause-feed_forward
returns-clause-feed_forward c = layout_feeds_forward
