use Rattle.dv_generations.specs.Feeds.{journal}
use Rattle.dv_notes.specs.Logs.{log_of, note_of}
use Rattle.dv_shared.proofs.noting.note_receipt.Given as goal

abbrev pub ghosts-publish_noted : goal.ghosts-publish_noted
ghosts-publish_noted g a = record {
  note = note_of (log_of g.K.Keeping.start (journal a.feed.now)) a.author a.c.now a.receipt.now.received a.receipt.now.group a.before.now.value.chain.live.mailbox;
}
