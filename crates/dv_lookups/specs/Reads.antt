-- What a command takes of the messages that it reads, one after another.
use Rattle.std.specs.Prelude.{◌≡◌, ℕ, ◌+◌, length, List, [], ◌∷◌, Option, Some, None, Bool, filter, flat_map, map}
use Rattle.dv_model.specs.declared.types.Item.{Item}
use Rattle.dv_model.specs.declared.types.Item.TheVariants.{Field}
use Rattle.dv_model.specs.declared.types.Key.{Key}
use Rattle.dv_model.specs.declared.types.Mailbox.{Mailbox}
use Rattle.dv_model.specs.declared.types.Reply.{Reply}
use Rattle.dv_model.specs.declared.types.Shown.{Shown}
use Rattle.dv_model.specs.Journals.{Mail, Held, Damaged}
use Rattle.dv_model.specs.Sessions.{candidate, fetch_line, number_of}
use Rattle.dv_model.specs.Views.{View}
use Rattle.dv_shelf.specs.Folders.{Folder}
use Rattle.dv_search.specs.Facts.{is_found}
use Rattle.dv_lookups.specs.Founds.{mail_of}

-- the line of a row, where its message is there
abbrev pub line_of : Mailbox → List Item → ℕ × Shown → Option Mail → List Reply
line_of m items row None = []
line_of m items row (Some Damaged) = []
line_of m items row (Some (Held message)) = fetch_line m items row message ∷ []

-- the UID, where the file of its message is missing or damaged
abbrev pub damaged_in : ℕ → Option Mail → List ℕ
damaged_in uid None = []
damaged_in uid (Some Damaged) = uid ∷ []
damaged_in uid (Some (Held message)) = []

-- the UIDs of rows
abbrev pub uids_of : List (ℕ × Shown) → List ℕ
uids_of rows = map (λ row. row.1.uid) rows

-- the lines of these rows, by the files in the folder
abbrev pub lines_of : Folder → Mailbox → List Item → List (ℕ × Shown) → List Reply
lines_of folder m items rows = flat_map (λ row. line_of m items row (mail_of folder m row.1.uid)) rows

-- the UIDs whose messages are damaged, by the files in the folder
abbrev pub damaged_of : Folder → Mailbox → List ℕ → List ℕ
damaged_of folder m uids = flat_map (λ uid. damaged_in uid (mail_of folder m uid)) uids

-- the lines of these rows were taken, where `with` says what is there with more replies, and these
-- are the UIDs of those whose messages are damaged
abbrev pub IsFetched : {R : Type 0} → (R → List Reply → R) → R → R → Folder → Mailbox → List Item
    → List (ℕ × Shown) → List ℕ → Type 0
IsFetched with old new folder m items rows damaged =
    (new ≡ with old (lines_of folder m items rows)) × (damaged ≡ damaged_of folder m (uids_of rows))

-- the message, where it is there
abbrev pub held_in : Option Mail → Option (List ℕ)
held_in None = None
held_in (Some Damaged) = None
held_in (Some (Held message)) = Some message

-- the numbers of those of these rows that a search finds, or their UIDs, by the files in the folder
abbrev pub numbers_found : Folder → Mailbox → Key → View → Bool → List (ℕ × Shown) → List ℕ
numbers_found folder m key view by_uid rows =
    map (number_of by_uid) (filter (λ row. is_found key (candidate view m row.1) (held_in (mail_of folder m row.1.uid))) rows)

-- about what an item takes of its line, but for what messages have
abbrev pub item_room : Item → ℕ
item_room (Field name) = length name + 24
item_room item = 24
