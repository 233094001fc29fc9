use Rattle.dv_feeding.proofs.Entries.{entry_one}
use Rattle.dv_feeding.proofs.Feeds.{feed_one}
use Rattle.dv_feeding.proofs.laws.one_feed.Goals as goal

pub returns-clause-entry : goal.returns-clause-entry
returns-clause-entry c = entry_one

pub returns-clause-one : goal.returns-clause-one
returns-clause-one c = feed_one
