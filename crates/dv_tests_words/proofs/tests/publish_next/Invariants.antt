use Rattle.dv_feed.specs.Appends.{append_note}
use Rattle.dv_tests_words.proofs.tests.publish_next.Given as goal

abbrev pub ghosts-publish_append : goal.ghosts-publish_append
ghosts-publish_append g a = record { note = append_note a.uid }
