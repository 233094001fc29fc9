-- What an appended message does to a mailbox, how it is written, and how a whole mailbox is shown.
use Rattle.std.specs.Prelude.{ℕ, ◌+◌, min, List, [], ◌∷◌, ◌++◌, map, replicate}
use Rattle.std.specs.Int.{w32, to_le_bytes}
use Rattle.dv_model.specs.declared.types.Body.TheVariants.{Append, HeaderUpdate}
use Rattle.dv_model.specs.declared.types.Mailbox.{Mailbox}
use Rattle.dv_model.specs.declared.types.Record.{Record}
use Rattle.dv_model.specs.declared.types.Reply.{Reply}
use Rattle.dv_model.specs.declared.types.Reply.TheVariants as reply
use Rattle.dv_model.specs.declared.types.Row.{Row}
use Rattle.dv_model.specs.declared.types.Shown.{Shown}
use Rattle.dv_model.specs.declared.types.Value.TheVariants as value
use Rattle.dv_model.specs.Mailboxes.{last_modseq}
use Rattle.dv_model.specs.Sessions.{external}
use Rattle.dv_model.specs.Views.{View, names_of, shown}

-- ---- an appended message

-- the record that an append writes
abbrev pub append_record : Mailbox → ℕ → Record
append_record m flags = record { top = external; body = Append (record { uid = m.next_uid; flags = flags } ∷ []) }

-- the new message: the next UID, these flags, no keywords, zero bytes for each extension, and the record's modification sequence
abbrev pub appended_row : Mailbox → ℕ → Row
appended_row m flags =
    record { uid = m.next_uid; flags = flags; keywords = []; parts = map (λ e. replicate e.record_size 0) m.extensions; modseq = min (m.highest + 1) last_modseq }

-- the mailbox with one message more, that has these flags and no keywords
abbrev pub appended : Mailbox → ℕ → Mailbox
appended m flags = record m { highest = min (m.highest + 1) last_modseq; rows = m.rows ++ appended_row m flags ∷ []; next_uid = m.next_uid + 1 }

-- ---- a new mailbox

-- the header update that gives a mailbox its UIDVALIDITY
abbrev pub validity_record : ℕ → Record
validity_record n = record { top = 0; body = HeaderUpdate (record { offset = 24; bytes = to_le_bytes w32 n } ∷ []) }

-- ---- what a session is shown of a whole mailbox

-- the view that shows the whole mailbox
abbrev pub full_view : Mailbox → View
full_view m = record { rows = map shown m.rows; next_uid = m.next_uid }

-- the line that shows a row under a number (RFC 3501, section 7.4.2)
abbrev pub fetch_of : Mailbox → ℕ → Shown → Reply
fetch_of m k s = reply.Fetch k s.uid (value.Flags s.flags (names_of m s.keywords) ∷ [])

-- each row, numbered from k
abbrev pub all_fetches : Mailbox → ℕ → List Shown → List Reply
all_fetches m k [] = []
all_fetches m k (s ∷ rows) = fetch_of m k s ∷ all_fetches m (k + 1) rows
