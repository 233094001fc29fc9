-- What a store's folder has beside its log: the messages of the mailbox's rows, and a cache that is
-- true.
use Rattle.std.specs.Prelude.{◌≡◌, ℕ, Contains}
use Rattle.dv_model.specs.declared.types.Mailbox.{Mailbox}
use Rattle.dv_model.specs.declared.types.Mark.{Mark}
use Rattle.dv_model.specs.declared.types.Row.{Row}
use Rattle.dv_model.specs.Journals.{Log}
use Rattle.dv_shelf.specs.Folders.{Folder}
use Rattle.dv_openings.specs.Numbers.{HasIndexid}
use Rattle.dv_openings.specs.Openings.{Finds, IsFound}
use Rattle.dv_openings.specs.TrueCaches.{HasTrueCache}
use Rattle.dv_files.specs.Reading.{guid_at, mail_at}

-- the message file of a UID gives the log's message and its GUID
pub record HasMessage (log : Log) (uid : ℕ) (c : Folder) : Type 0 where
  pub held : mail_at c uid ≡ log.mail uid
  pub named : guid_at c uid ≡ log.guid uid

-- so it is for each row of the mailbox, and what the cache file has of these rows is true
pub record Keeps (log : Log) (m : Mailbox) (c : Folder) : Type 0 where
  pub messages : (row : Row) → Contains m.rows row → HasMessage log row.uid c
  pub cache : HasTrueCache c log.indexid m

-- the folder opens to that mailbox, of the log's number, at that mark, and keeps it
pub record Gives (log : Log) (m : Mailbox) (mark : Mark) (c : Folder) : Type 0 where
  pub opens : IsFound c (Finds m mark)
  pub named : HasIndexid c log.indexid
  pub keeps : Keeps log m c
