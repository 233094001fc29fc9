-- What a folder keeps with a command's group, before that is written.
use Rattle.std.specs.Prelude.{◌≡◌, ℕ, List, Contains, Some, true}
use Rattle.dv_model.specs.declared.types.Command.{Command}
use Rattle.dv_model.specs.declared.types.Mailbox.{Mailbox}
use Rattle.dv_model.specs.declared.types.Row.{Row}
use Rattle.dv_model.specs.Effects.{applied}
use Rattle.dv_model.specs.Journals.{Log}
use Rattle.dv_model.specs.Sessions.{check_records, is_append}
use Rattle.dv_shelf.specs.declared.shelf.Name.TheVariants as name
use Rattle.dv_shelf.specs.Folders.{Folder}
use Rattle.dv_cached.specs.Laws.{Makes}
use Rattle.dv_writing.specs.Keeping.{HasMessage, Keeps}
use Rattle.dv_writing.specs.Renewals.{IsCacheOf}

-- the log with the group is of the same index, and the messages of the mailbox's rows stay
pub record KeepsMessages (log written : Log) (m : Mailbox) : Type 0 where
  pub named : written.indexid ≡ log.indexid
  pub messages : (row : Row) → Contains m.rows row
      → (written.mail row.uid ≡ log.mail row.uid) × (written.guid row.uid ≡ log.guid row.uid)

-- the mailbox with the group of any command but CHECK is kept, where for APPEND the new message's
-- file is there
abbrev pub KeptWithGroup : Type 0
KeptWithGroup =
    (log written : Log) (c : Command) (m after : Mailbox) (folder : Folder)
    → Makes c m after
    → KeepsMessages log written m
    → (is_append c ≡ true → HasMessage written m.next_uid folder)
    → Keeps log m folder
    → Keeps written after folder

-- and that with the group of CHECK, where the cache file is of the mailbox's messages
abbrev pub KeptWithCheck : Type 0
KeptWithCheck =
    (log written : Log) (m after : Mailbox) (cache : List ℕ) (folder : Folder)
    → applied m (check_records m) ≡ Some after
    → KeepsMessages log written m
    → IsCacheOf log m cache
    → folder name.Cache ≡ Some cache
    → Keeps log m folder
    → Keeps written after folder
