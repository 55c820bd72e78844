use Rattle.crn_token.proofs.BlankLaws.{lines-feed, lines-last, feed_more}
use Rattle.crn_token.proofs.laws.lines_end_at_feeds.Goals as goal

pub returns-clause-feed : goal.returns-clause-feed
returns-clause-feed c = λ line rest none. lines-feed line rest none

pub returns-clause-last : goal.returns-clause-last
returns-clause-last c = λ line some none. lines-last line some none

pub returns-clause-missing : goal.returns-clause-missing
returns-clause-missing c = λ bytes b other. feed_more bytes b other
