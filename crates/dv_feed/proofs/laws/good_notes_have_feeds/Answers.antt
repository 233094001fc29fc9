use Rattle.dv_feed.proofs.Marks.{rests_are_words, words_are_feed}
use Rattle.dv_feed.proofs.laws.good_notes_have_feeds.Goals as goal

pub returns-clause-feed : goal.returns-clause-feed
returns-clause-feed c = words_are_feed

pub returns-clause-rest : goal.returns-clause-rest
returns-clause-rest c = rests_are_words
