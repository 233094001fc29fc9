-- A mailbox folder that is made.
use Rattle.std.specs.Prelude.{◌≡◌, ◌⊎◌, ℕ, List, [], ◌∷◌, Some, None, Result, Ok, Err}
use Rattle.dv_model.specs.Appends.{validity_record}
use Rattle.dv_model.specs.Mailboxes.{empty_mailbox}
use Rattle.dv_model.specs.declared.types.Mailbox.{Mailbox}
use Rattle.dv_model.specs.declared.types.OpenFault.{OpenFault}
use Rattle.dv_model.specs.declared.types.OpenFault.TheVariants as fault
use Rattle.dv_shelf.specs.Folders.{Folder, with_file}
use Rattle.dv_shelf.specs.declared.shelf.Name.TheVariants as name
use Rattle.dv_logfile.specs.Layout.{log_text, new_header}
use Rattle.dv_logfile.specs.declared.commit.Debt.TheVariants as debt
use Rattle.dv_openings.specs.Rebuilds.{stamp_of}
use Rattle.dv_chain.specs.declared.chain.Chain.{Chain}

-- none of the files that opening reads is there
pub record HasNone (folder : Folder) : Type 0 where
  pub index : folder name.Index ≡ None
  pub log : folder name.Log ≡ None
  pub log2 : folder name.Log2 ≡ None

-- the log of a mailbox that was made now: a new file, and the header update with its UIDVALIDITY
abbrev pub first_log : ℕ → List ℕ
first_log n = log_text (new_header n) (validity_record n ∷ [])

-- the folder with it, by a clock's reading, in which 0 counts as 1
abbrev pub created : Folder → ℕ → Folder
created old now = with_file old name.Log (Some (first_log (stamp_of now)))

-- the mailbox behind its one record
abbrev pub first_mailbox : ℕ → Mailbox
first_mailbox n = record (empty_mailbox n) { highest = 2 }

-- a chain at the end of that log
pub record IsFirst (n : ℕ) (chain : Chain) : Type 0 where
  pub mailbox : chain.live.mailbox ≡ first_mailbox n
  pub log : chain.log ≡ record { file_seq = 1; end = 56; count = 1; debt = debt.None }
  pub indexid : chain.indexid ≡ n
  pub records : chain.records ≡ 1

-- the folder as it was, or with the new log
abbrev pub IsOldOrCreated : Folder → ℕ → Folder → Type 0
IsOldOrCreated old now new = (new ≡ old) ⊎ (new ≡ created old now)

-- Behind Ok the log is there, and nothing else is changed. Only want of memory and a fault of the disk
-- are answered, and the first leaves the folder as it was.
abbrev pub LeavesCreated : Folder → ℕ → Folder → Result Chain OpenFault → Type 0
LeavesCreated old now new (Ok chain) = new ≡ created old now
LeavesCreated old now new (Err fault.NoMemory) = new ≡ old
LeavesCreated old now new (Err (fault.Disk faults)) = IsOldOrCreated old now new
LeavesCreated old now new (Err other) = ⊥
