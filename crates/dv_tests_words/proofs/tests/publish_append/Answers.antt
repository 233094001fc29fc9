use Rattle.std.proofs.Common.{◌++◌, ◌∷◌, [], ◌∙◌, ap}
use Rattle.dv_front.specs.declared.notes.Note.{Note}
use Rattle.dv_generations.specs.Feeds.{journal}
use Rattle.dv_tests_words.proofs.tests.publish_append.Goals as goal

pub returns : goal.returns
returns g c = c.publish.ensures.journal ∙ ap (λ (n : Note). journal c.args.feed.now ++ n ∷ []) c.requires.note
