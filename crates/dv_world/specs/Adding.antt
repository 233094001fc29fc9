-- What is kept when an entry is added, and when a log alone is left.
use Rattle.std.specs.Prelude.{◌≡◌, ℕ, ◌+◌, List, [], ◌∷◌, length, Option, Some, None, slice_get, if◌then◌else◌}
use Rattle.dv_model.specs.declared.types.Command.{Command}
use Rattle.dv_model.specs.declared.types.Command.TheVariants as command
use Rattle.dv_model.specs.declared.types.Mailbox.{Mailbox}
use Rattle.dv_model.specs.Journals.{at, new_guid}
use Rattle.dv_model.specs.Transcripts.{with_written}
use Rattle.dv_apply.specs.States.{Held}
use Rattle.dv_world.specs.declared.kept.Kept.{Kept}
use Rattle.dv_world.specs.declared.kept.Logged.{Logged}
use Rattle.dv_world.specs.declared.kept.Pending.{Pending}
use Rattle.dv_world.specs.declared.kept.Wrote.{Wrote}
use Rattle.dv_world.specs.Keeping.{IsLogged, kept_log}

-- the message of an APPEND over this mailbox
abbrev pub stored_for : ℕ → Mailbox → Command → ℕ → Option (ℕ × Option (List ℕ) × List ℕ)
stored_for indexid m (command.Append flags keywords message) received = Some (m.next_uid, Some message, new_guid indexid m.uid_validity m.next_uid received)
stored_for indexid m c received = None

-- that of a pending one
abbrev pub stored_by : ℕ → Mailbox → Pending → Option (ℕ × Option (List ℕ) × List ℕ)
stored_by indexid m p = stored_for indexid m p.command p.received

-- it stands before those that were kept
abbrev pub stored_with : Option (ℕ × Option (List ℕ) × List ℕ) → List (ℕ × Option (List ℕ) × List ℕ) → List (ℕ × Option (List ℕ) × List ℕ)
stored_with None stored = stored
stored_with (Some one) stored = one ∷ stored

-- the pending entry is the last of the log, and all but the log's end is as before
pub record IsAdded (old : Kept) (p : Pending) (new : Kept) (write : Option Wrote) : Type 0 where
  pub log : kept_log new ≡ with_written (kept_log old) p.author p.command p.received p.group old.end.mailbox
  pub pending : new.pending ≡ None
  pub published : new.published ≡ old.published
  pub front : new.front ≡ old.front
  pub seats : new.seats ≡ old.seats
  pub longer : length new.logged.items ≡ length old.logged.items + 1
  pub end : at (kept_log new) (length new.logged.items) ≡ Some new.end.mailbox
  pub logged : (j : ℕ) (l : Logged) → slice_get new.logged.items j ≡ Some l → IsLogged (kept_log new) j l
  pub wrote : write ≡ Some (record {
    place = length old.logged.items + 1;
    met = length old.logged.items;
    command = p.command;
    taken = p.taken;
  })

-- so it is where an entry is pending, and else nothing changes
abbrev pub AddsBy : Kept → Kept → Option Wrote → Option Pending → Type 0
AddsBy old new wrote None = (new ≡ old) × (wrote ≡ None)
AddsBy old new wrote (Some p) = IsAdded old p new wrote

-- by the entry that is pending
abbrev pub AddsEntry : Kept → Kept → Option Wrote → Type 0
AddsEntry old new wrote = AddsBy old new wrote old.pending

-- the log stays, all of it published, with this mailbox behind it
pub record Leaves (old new : Kept) (mailbox : Held) : Type 0 where
  pub start : (new.start ≡ old.start) × (new.start_mark ≡ old.start_mark)
  pub files : (new.indexid ≡ old.indexid) × (new.stored ≡ old.stored)
  pub logged : new.logged ≡ old.logged
  pub end : new.end ≡ old.end
  pub front : new.front ≡ mailbox
  pub published : new.published ≡ length old.logged.items
  pub pending : new.pending ≡ None
  pub seats : new.seats.items ≡ []

-- whose entry is pending and runs
abbrev pub running_author : Option Pending → Option ℕ
running_author None = None
running_author (Some p) = if p.running then Some p.author else None
