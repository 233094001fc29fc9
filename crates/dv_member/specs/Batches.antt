-- Entries that a session is yet to see, made ready all together.
use Rattle.std.specs.Prelude.{◌≡◌, ℕ, ◌+◌, ◌≤◌, List, ◌++◌, All, drop, length}
use Rattle.dv_model.specs.declared.types.Mailbox.{Mailbox}
use Rattle.dv_model.specs.declared.types.Record.{Record}
use Rattle.dv_model.specs.Journals.{IsEntry, Log}
use Rattle.dv_model.specs.Mailboxes.{IsValid}
use Rattle.dv_validity.proofs.Logs.{records_of}
use Rattle.dv_front.specs.declared.notes.Note.{Note}
use Rattle.dv_front.specs.Notes.{entries_of, text_of}
use Rattle.dv_feed.specs.Feeds.{mark_from}
use Rattle.dv_answer.specs.Following.{IsAbreast}
use Rattle.dv_apply.specs.Preparing.{Makes}
use Rattle.dv_member.specs.declared.batch.Batch.{Batch}
use Rattle.dv_member.specs.declared.batch.Ready.{Ready}
use Rattle.dv_member.specs.declared.mirror.Mirror.{Mirror}

-- the records of notes
abbrev pub records_in : List Note → List Record
records_in notes = records_of (entries_of notes)

-- the records of these notes behind the first of them, and the place behind all
pub record Gathers (start : Log) (from : ℕ) (notes : List Note) (b : Batch) : Type 0 where
  pub low : from ≤ length notes
  pub records : b.records.items ≡ records_in (drop from notes)
  pub mark : b.mark ≡ mark_from start.start_mark (entries_of notes)
  pub seen : b.seen ≡ length notes

-- the entries of these words came to it
abbrev pub Adds : List ℕ → Batch → Batch → Type 0
Adds words old new = (part : List Note) → All IsEntry (entries_of part) → text_of part ≡ words
    → (new.records.items ≡ old.records.items ++ records_in part)
    × (new.mark ≡ mark_from old.mark (entries_of part))
    × (new.seen ≡ old.seen + length part)

-- it makes this mailbox of the mirror's, and a session that keeps up with the one keeps up with the other by these UIDs
pub record Leads (m : Mirror) (after : Mailbox) (r : Ready) : Type 0 where
  pub makes : Makes m.live r.prepared after
  pub abreast : IsValid m.live.mailbox → IsValid after → IsAbreast m.live.mailbox m.session
      → IsAbreast after (record m.session { touched = r.touched })

-- it was shown and told, so that the session keeps up with this mailbox
pub record IsTold (after : Mailbox) (r : Ready) (old new : Mirror) : Type 0 where
  pub mailbox : new.live.mailbox ≡ after
  pub abreast : IsAbreast after new.session
  pub told : new.session.state.told ≡ r.seen
  pub now : new ≡ record { seen = r.seen; live = new.live; mark = r.mark; session = new.session; told_mark = r.mark }
