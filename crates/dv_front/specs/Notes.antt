-- The entries of a log with their messages: which lists of them are good, and their words.
use Rattle.std.specs.Prelude.{◌≡◌, ℕ, ◌<◌, ◌≤◌, ◌++◌, true, List, [], ◌∷◌, map, Option, Some, None, ⊤}
use Rattle.dv_model.specs.declared.types.Entry.{Entry}
use Rattle.dv_model.specs.declared.types.Mailbox.{Mailbox}
use Rattle.dv_model.specs.declared.types.Mark.{Mark}
use Rattle.dv_model.specs.Effects.{applied}
use Rattle.dv_model.specs.Journals.{IsEntry, IsGuid, IsU32, mark_behind}
use Rattle.dv_formats.specs.Feeds.{feed_text}
use Rattle.dv_front.specs.declared.notes.Generation.{Generation}
use Rattle.dv_front.specs.declared.notes.Note.{Note}
use Rattle.dv_front.specs.declared.notes.Post.{Post}

-- the notes' entries
abbrev pub entries_of : List Note → List Entry
entries_of notes = map (λ (n : Note). n.entry) notes

-- the words of their entries, one behind another
abbrev pub text_of : List Note → List ℕ
text_of notes = feed_text (entries_of notes)

-- a message, where there is one, is that of a UID from low on and below high, and its GUID is one
abbrev pub IsPlaced : ℕ → ℕ → Option Post → Type 0
IsPlaced low high None = ⊤
IsPlaced low high (Some p) = (low ≤ p.uid) × (p.uid < high) × IsGuid p.guid

-- Behind this mailbox and place, each entry applies to the mailbox that those before it leave and ends at a place of 32 bits,
-- and its message is that of a UID which it gives out.
abbrev pub AreNotes : Mailbox → Mark → List Note → Type 0
AreNotes m mark [] = ⊤
AreNotes m mark (n ∷ notes) =
    IsEntry n.entry × IsU32 (mark_behind true mark n.entry.group).offset
    × ((after : Mailbox) × (applied m n.entry.group.records ≡ Some after) × IsPlaced m.next_uid after.next_uid n.post
    × AreNotes after (mark_behind true mark n.entry.group) notes)

-- the notes go on from those before their generation, and from the start of the log all are such
abbrev pub AreGood : Generation → List Note → Type 0
AreGood g notes = AreNotes g.origin.mailbox g.origin.mark (g.base ++ notes)

-- an entry without records
abbrev pub empty_note : Note
empty_note = record { entry = record { author = 0; group = record { records = [] } }; post = None }
