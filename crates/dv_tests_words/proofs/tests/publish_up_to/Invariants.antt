use Rattle.std.proofs.Common.{◌≡◌}
use Rattle.dv_feed.specs.Appends.{appends_from}
use Rattle.dv_generations.specs.Feeds.{journal}
use Rattle.dv_tests_words.proofs.tests.publish_up_to.Given as goal

abbrev pub invariant-loop-uid : goal.invariant-loop-uid
invariant-loop-uid g l = journal l.feed ≡ appends_from 1 l.uid
