-- The log that a run starts from, by the folder that it is given.
use Rattle.std.specs.Prelude.{◌≡◌, ◌⊎◌, ℕ, [], true}
use Rattle.dv_model.specs.declared.types.Mailbox.{Mailbox}
use Rattle.dv_model.specs.declared.types.Mark.{Mark}
use Rattle.dv_model.specs.Journals.{Log}
use Rattle.dv_shelf.specs.Folders.{Folder, IsNew}
use Rattle.dv_openings.specs.Openings.{Finds, IsFound}
use Rattle.dv_openings.specs.Rebuilds.{stamp_of}
use Rattle.dv_chain.specs.Creations.{first_mailbox}
use Rattle.dv_files.specs.Reading.{guid_at, mail_at}
use Rattle.dv_openings.specs.Numbers.{IsNamed}

-- a mailbox at a place, whose messages are those of the folder's message files
abbrev pub log_from : ℕ → Mailbox → Mark → Folder → Log
log_from indexid m mark folder = record {
  start = m;
  start_mark = mark;
  rotates = true;
  entries = [];
  indexid = indexid;
  mail = mail_at folder;
  guid = guid_at folder;
}

-- the folder opens to this mailbox, at this place
pub record IsOpened (folder : Folder) (start : Log) : Type 0 where
  pub indexid : ℕ
  pub mailbox : Mailbox
  pub mark : Mark
  pub named : IsNamed folder indexid
  pub found : IsFound folder (Finds mailbox mark)
  pub is : start ≡ log_from indexid mailbox mark folder

-- behind the header's 40 bytes and the record that gives a new mailbox its UIDVALIDITY
abbrev pub first_mark : Mark
first_mark = record { file_seq = 1; offset = 56 }

-- a mailbox that is made at a clock's reading
abbrev pub new_log : ℕ → Folder → Log
new_log reading folder =
    log_from (stamp_of reading) (first_mailbox (stamp_of reading)) first_mark folder

-- What a run starts from, behind so many readings of the clock: the mailbox that is found, or, in a
-- folder without one, a new one.
abbrev pub Starts : (ℕ → ℕ) → Folder → Log → ℕ → Type 0
Starts clock folder start used =
    (IsOpened folder start × (used ≡ 0))
    ⊎ (IsNew folder × (start ≡ new_log (clock 0) folder) × (used ≡ 1))
