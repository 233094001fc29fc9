-- The texts of messages in the files of a storage: box texts, one behind another.
use Rattle.std.specs.Prelude.{◌≡◌, ℕ, ◌+◌, ◌≤◌, List, take, drop, length, Option, Some, None, nat_eq, nat_le, All, if◌then◌else◌}
use Rattle.dv_model.specs.declared.types.Mailbox.{Mailbox}
use Rattle.dv_model.specs.declared.types.Row.{Row}
use Rattle.dv_model.specs.Journals.{Mail, Held, Damaged}
use Rattle.dv_shelf.specs.declared.shelf.Name.TheVariants as name
use Rattle.dv_shelf.specs.Folders.{Folder}
use Rattle.dv_dbox.specs.Mails.{mail_in}
use Rattle.dv_maps.specs.declared.place.Place.{Place}
use Rattle.dv_maps.specs.Maps.{row_count, row_place}

-- the message at a place of a file: damage where the place isn't in the file, or isn't one whole
-- box text
abbrev pub text_in : Option (List ℕ) → Place → Mail
text_in None place = Damaged
text_in (Some b) place =
    if nat_le (place.offset + place.size) (length b)
    then mail_in (Some (take place.size (drop place.offset b)))
    else Damaged

-- the same of a folder's file
abbrev pub text_at : Folder → Place → Mail
text_at folder place = text_in (folder (name.Mail place.file)) place

-- what was saved under each id, where that is known
abbrev pub Messages : Type 0
Messages = ℕ → Option (List ℕ)

-- the messages with one more
abbrev pub with_message : ℕ → List ℕ → Messages → Messages
with_message id message messages =
    λ n. if nat_eq n id then Some message else messages n

-- the message that was saved for the row stands at its place, where the row has a reference
abbrev pub HasText : Messages → Mailbox → Folder → Row → Type 0
HasText messages m folder row =
    1 ≤ row_count m row
    → (message : List ℕ) → messages row.uid ≡ Some message
    → text_at folder (row_place m row) ≡ Held message

-- so it is of each row of the map
abbrev pub KeepsTexts : Messages → Mailbox → Folder → Type 0
KeepsTexts messages m folder = All (HasText messages m folder) m.rows
