use Rattle.std.proofs.Common.{◌≡◌}
use Rattle.dv_formats.specs.Feeds.{words_of}
use Rattle.dv_feed.specs.Publishing.{with_words}
use Rattle.dv_feed.proofs.publishing.put_text.Given as goal

abbrev pub invariant-loop-k : goal.invariant-loop-k
invariant-loop-k l = l.pen ≡ with_words l.initial.pen (words_of l.k l.text)
