use Rattle.std.proofs.Common.{◌∙◌}
use Rattle.dv_generations.specs.Feeds.{journal}
use Rattle.dv_tests_words.proofs.Appending.{next_append, next_is_good, ready_journal}
use Rattle.dv_tests_words.proofs.tests.publish_next.Goals as goal

pub publish_append-requires-clause-good : goal.publish_append-requires-clause-good
publish_append-requires-clause-good g c =
    let stays = ready_journal c.args.feed.now c.ready.new.self c.in-Ok.next c.in-Ok.ensures.stays in
    next_is_good g.K.Keeping.start (journal c.ready.new.self) c.args.last c.requires.start.0 c.requires.start.1 c.requires.few (stays ∙ c.requires.before)

pub returns-clause-ok : goal.returns-clause-ok
returns-clause-ok g c =
    let stays = ready_journal c.args.feed.now c.ready.new.self c.in-Ok.next c.in-Ok.ensures.stays in
    c.publish_append.ensures ∙ next_append (journal c.ready.new.self) c.args.last (stays ∙ c.requires.before)
